-- What holds of n division steps over every commutative ring of coefficients.
-- Main definition: `StepLaws`: steps read only the first coefficients, the matrix carries f and g over, and matrices compose.
use Rattle.std.specs.Prelude.{◌≡◌, ℕ, ◌+◌, ◌<◌, Bool, List, length, ℤ}
use Rattle.field.specs.Rings.{Operations, Normal}
use Rattle.field.specs.Convolution.{at}
use Rattle.divstep.specs.Steps.{State, after}
use Rattle.divstep.specs.Batches.{row_at}

module _ {C : Type 0} (O : Operations C) where
  -- two lists of one length, in normal form
  pub record Pair (f g : List C) : Type 0 where
    pub long : length f ≡ length g
    pub normal_f : (k : ℕ) → Normal O (at O f k)
    pub normal_g : (k : ℕ) → Normal O (at O g k)

  -- the same first m coefficients
  abbrev pub Agree : ℕ → List C → List C → Type 0
  Agree m a b = (k : ℕ) → k < m → at O a k ≡ at O b k

  -- f and g after m steps are the matrix times the old f and g, without the first m coefficients
  pub record Applied (m : ℕ) (f g : List C) (s : State (List C)) : Type 0 where
    pub f_at : (k : ℕ) → at O s.f k ≡ row_at O s.u s.v f g (k + m)
    pub g_at : (k : ℕ) → at O s.g k ≡ row_at O s.q s.r f g (k + m)

  -- t is b after a: its matrix is that of b times that of a
  pub record Composed (a b t : State (List C)) : Type 0 where
    pub δ_is : t.δ ≡ b.δ
    pub f_is : t.f ≡ b.f
    pub g_is : t.g ≡ b.g
    pub u_at : (k : ℕ) → at O t.u k ≡ row_at O b.u b.v a.u a.q k
    pub v_at : (k : ℕ) → at O t.v k ≡ row_at O b.u b.v a.v a.r k
    pub q_at : (k : ℕ) → at O t.q k ≡ row_at O b.q b.r a.u a.q k
    pub r_at : (k : ℕ) → at O t.r k ≡ row_at O b.q b.r a.v a.r k

-- the same δ and the same matrix
pub record SameMatrix {A : Type 0} (s t : State A) : Type 0 where
  pub δ_is : s.δ ≡ t.δ
  pub u_is : s.u ≡ t.u
  pub v_is : s.v ≡ t.v
  pub q_is : s.q ≡ t.q
  pub r_is : s.r ≡ t.r

module _ {C : Type 0} (O : Operations C) (nonzero : C → Bool) where
  pub record StepLaws : Type 0 where
    -- m steps read only δ and the first m coefficients of f and g
    pub local : (m : ℕ) (δ : ℤ) (f g f' g' : List C) → length f ≡ length g → length f' ≡ length g' → Agree O m f f' → Agree O m g g' → SameMatrix (after O nonzero m δ f g) (after O nonzero m δ f' g')
    pub apply : (m : ℕ) (δ : ℤ) (f g : List C) → Pair O f g → Applied O m f g (after O nonzero m δ f g)
    -- the matrix of m steps taken from where n steps end, times the matrix of n steps, is the matrix of n + m steps
    pub compose : (n m : ℕ) (δ : ℤ) (f g : List C) → Pair O f g →
        let a = after O nonzero n δ f g in
        Composed O a (after O nonzero m a.δ a.f a.g) (after O nonzero (n + m) δ f g)

-- Lists made from a function of the index.
use Rattle.std.proofs.Common.{◌≡◌, ℕ, zero, suc, ◌<◌, List, [], ◌∷◌, ◌++◌, length, get_or, replicate, sym, refl, ap, ◌∙◌, arith}
use Rattle.std.proofs.lemmas.List.FromFn.{length-map-range_with_len, get_or-map-range_with_len, fill_by_all}
use Rattle.field.specs.Convolution.{tabulate}

module _ {C : Type 0} where
  pub length_tabulate : (n : ℕ) (f : ℕ → C) → length (tabulate n f) ≡ n
  unfolding tabulate
  length_tabulate n f = length-map-range_with_len f 0 n

  pub get_d_tabulate : (n : ℕ) (f : ℕ → C) (d : C) (k : ℕ) → k < n → get_or (tabulate n f) k d ≡ f k
  unfolding tabulate
  get_d_tabulate n f d k h = get_or-map-range_with_len f 0 n k k d h (omega arith)

  -- a list that holds f k at each place k
  pub tabulate_is : (n : ℕ) (f : ℕ → C) (a : List C) (d : C) → length a ≡ n → ((k : ℕ) → k < n → get_or a k d ≡ f k) → a ≡ tabulate n f
  unfolding tabulate
  tabulate_is n f a d h e = fill_by_all f a n d h e

  -- functions that agree below n make one list
  pub tabulate_ext : (n : ℕ) (f g : ℕ → C) → ((k : ℕ) → k < n → f k ≡ g k) → tabulate n f ≡ tabulate n g
  tabulate_ext n f g e = tabulate_is n g (tabulate n f) (f 0) (length_tabulate n f) (λ k h. get_d_tabulate n f (f 0) k h ∙ e k h)

  -- the first of n + 1 values by itself
  pub tabulate_more : (n : ℕ) (f : ℕ → C) → tabulate (suc n) f ≡ f 0 ∷ tabulate n (λ k. f (suc k))
  tabulate_more n f = sym (tabulate_is (suc n) f _ (f 0) (ap suc (length_tabulate n _)) go)
    where
      go : (k : ℕ) → k < suc n → get_or (f 0 ∷ tabulate n (λ i. f (suc i))) k (f 0) ≡ f k
      go zero h = refl
      go (suc k) h = get_d_tabulate n _ _ k (omega arith)

  pub tabulate_none : (f : ℕ → C) → tabulate 0 f ≡ []
  unfolding tabulate
  tabulate_none f = refl

  -- lists that agree at each place
  pub same_places : (n : ℕ) (a b : List C) (d : C) → length a ≡ n → length b ≡ n → ((k : ℕ) → k < n → get_or a k d ≡ get_or b k d) → a ≡ b
  same_places n a b d ha hb e = tabulate_is n (λ k. get_or b k d) a d ha e ∙ sym (tabulate_is n (λ k. get_or b k d) b d hb (λ k h. refl))

  -- one value at every place
  pub replicate_at : (n : ℕ) (d : C) (k : ℕ) → get_or (replicate n d) k d ≡ d
  replicate_at zero d k = refl
  replicate_at (suc n) d zero = refl
  replicate_at (suc n) d (suc k) = replicate_at n d k

  -- one default more at the end
  pub padded : (a : List C) (d : C) (k : ℕ) → get_or (a ++ d ∷ []) k d ≡ get_or a k d
  padded [] d zero = refl
  padded [] d (suc k) = refl
  padded (x ∷ a) d zero = refl
  padded (x ∷ a) d (suc k) = padded a d k

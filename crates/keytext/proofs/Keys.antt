-- A key's text, taken apart line by line.
use Rattle.std.proofs.Common.{◌≡◌, ℕ, ◌<◌, ◌≤◌, ◌≢◌, true, ltb, ◌⊎◌, List, [], ◌∷◌, ◌++◌, map, length, decimal, sym, refl, ap, ◌∙◌, subst, inl, inr, ⊎_elim, arith, Bor, Option, Some, None, MatchOption}
use Rattle.std.specs.Option.{unwrap_or}
use Rattle.std.specs.List.{flat_map}
use Rattle.std.proofs.lemmas.List.Elements.{All-nil, All-cons, All-append, All-map}
use Rattle.std.proofs.lemmas.List.{append_assoc, append-nil}
use Rattle.std.proofs.lemmas.Bool.{and_parts, ltb-true}
use Rattle.field.specs.Meaning.{all_codes}
use Rattle.keytext.specs.declared.malformed.Line.{Line}
use Rattle.keytext.specs.declared.malformed.Line.TheVariants.{G, F, V, H}
use Rattle.keytext.specs.Cuts.{Lacks, Stops, IsCut}
use Rattle.keytext.specs.Lines.{letter_of, digit, spaced, trit_line, number_line, IsTritLine, IsNumberLine, NoneOf}
use Rattle.keytext.specs.Keys.{Ended, IsKey, NoKey, TritsThen, TritsRead, NoTrits, IsLast}
use Rattle.keytext.proofs.Cutting.{same_cut}
use Rattle.keytext.proofs.Lines.{lacks_decimal}

-- no line has a newline in it
no_newline : (l : Line) → letter_of l ≡ 10 → ⊥
no_newline G e = omega arith
no_newline F e = omega arith
no_newline V e = omega arith
no_newline H e = omega arith

lacks_trits : (l : Line) (xs : List ℕ) → Lacks 10 (trit_line (letter_of l) xs)
lacks_trits l xs =
    let digits : Lacks 10 (map digit xs) = All-map (λ z. z ≢ 10) digit xs (λ k d h e. omega arith) in
    All-cons (λ z. z ≢ 10) (letter_of l) (32 ∷ map digit xs) (no_newline l) (All-cons (λ z. z ≢ 10) 32 (map digit xs) (λ e. omega arith) digits)

lacks_numbers : (l : Line) (xs : List ℕ) → all_codes 4591 xs ≡ true → Lacks 10 (number_line (letter_of l) xs)
unfolding all_codes
lacks_numbers l xs e = All-cons (λ z. z ≢ 10) (letter_of l) (flat_map spaced xs) (no_newline l) (numbers xs e)
  where
    numbers : (ys : List ℕ) → all_codes 4591 ys ≡ true → Lacks 10 (flat_map spaced ys)
    numbers [] z = All-nil (λ z. z ≢ 10)
    numbers (y ∷ ys) z =
        let p = and_parts (ltb y 4591) (all_codes 4591 ys) z in
        let this : Lacks 10 (decimal y) = lacks_decimal 10 y (omega arith) (ltb-true y 4591 p.0) in
        All-cons (λ z. z ≢ 10) 32 (decimal y ++ flat_map spaced ys) (λ w. omega arith) (All-append (λ z. z ≢ 10) (decimal y) (flat_map spaced ys) this (numbers ys p.1))

-- what is left of a text that stops at a newline, once a newline in front is taken off
pub past_newline : (back : Bor (List ℕ)) (r : Option (Bor (List ℕ))) → Stops 10 back.now → MatchOption r ((u : List ℕ) → back.now ≢ (10 ∷ []) ++ u) (λ x. back.now ≡ (10 ∷ []) ++ x.now)
    → (back.now ≡ 10 ∷ (unwrap_or r back).now) ⊎ ((back.now ≡ []) × ((unwrap_or r back).now ≡ []))
past_newline back (Some x) stops is = inl is
past_newline back None stops none = let e = empty back.now stops none in inr (e, e)
  where
    empty : (t : List ℕ) → Stops 10 t → ((u : List ℕ) → t ≢ (10 ∷ []) ++ u) → t ≡ []
    empty [] s n = refl
    empty (x ∷ xs) s n = absurd (n xs (ap (λ y. y ∷ xs) s))

-- a text cut before its first newline
module _ (text front back : List ℕ) (cut : IsCut 10 text front back) where
  cut_trits : (l : Line) (xs u : List ℕ) → TritsThen (letter_of l) text xs u → (front ≡ trit_line (letter_of l) xs) × (back ≡ 10 ∷ u)
  cut_trits l xs u t = same_cut 10 front (trit_line (letter_of l) xs) back (10 ∷ u) cut.lacks (lacks_trits l xs) cut.stops refl (sym cut.whole ∙ t.written)

  pub trits_read : (l : Line) (n : ℕ) (out rest : List ℕ) → IsTritLine (letter_of l) front out → (back ≡ 10 ∷ rest) ⊎ ((back ≡ []) × (rest ≡ [])) → TritsRead (letter_of l) n text out rest
  trits_read l n out rest is below = record {
    reads = λ some.
        let ended : back ≡ 10 ∷ rest = ⊎_elim (λ e. e) (λ e. absurd (omega (arith, ap length e.1))) below in
        record { codes = is.codes; written = cut.whole ∙ ap (λ t. t ++ back) is.written ∙ ap (λ t. trit_line (letter_of l) out ++ t) ended };
    only = λ xs u long t.
        let e : back ≡ 10 ∷ u = (cut_trits l xs u t).1 in
        ⊎_elim (λ f. cc) (λ f. absurd (omega (arith, ap length e, ap length f.0))) below;
  }

  pub trits_none : (l : Line) (n : ℕ) → NoneOf n (IsTritLine (letter_of l) front) → NoTrits (letter_of l) n text
  trits_none l n none xs u long t = none xs long (record { codes = t.codes; written = (cut_trits l xs u t).0 })

  cut_last : (xs : List ℕ) → IsLast text xs → (front ≡ number_line 104 xs) × (length back ≤ 1)
  cut_last xs t = ⊎_elim bare newline t.written
    where
      bare : text ≡ number_line 104 xs → (front ≡ number_line 104 xs) × (length back ≤ 1)
      bare e =
          let p = same_cut 10 front (number_line 104 xs) back [] cut.lacks (lacks_numbers H xs t.codes) cut.stops tt (sym cut.whole ∙ e ∙ sym (append-nil (number_line 104 xs))) in
          (p.0, omega (arith, ap length p.1))

      newline : text ≡ number_line 104 xs ++ 10 ∷ [] → (front ≡ number_line 104 xs) × (length back ≤ 1)
      newline e =
          let p = same_cut 10 front (number_line 104 xs) back (10 ∷ []) cut.lacks (lacks_numbers H xs t.codes) cut.stops refl (sym cut.whole ∙ e) in
          (p.0, omega (arith, ap length p.1))

  pub last_none : (n : ℕ) → NoneOf n (IsNumberLine 104 front) → NoneOf n (IsLast text)
  last_none n none xs long t = none xs long (record { codes = t.codes; written = (cut_last xs t).0 })

  pub last_trailing : (n : ℕ) → 1 < length back → NoneOf n (IsLast text)
  last_trailing n more xs long t = omega (arith, (cut_last xs t).1)

-- the text begins with a and a newline, and what follows is t, with a newline at its end or without
record Under (a t text : List ℕ) : Type 0 where
  rest : List ℕ
  written : text ≡ a ++ 10 ∷ rest
  ended : Ended t rest

under : (a t text : List ℕ) → Ended (a ++ 10 ∷ t) text → Under a t text
under a t text =
    ⊎_elim
    (λ e. record { rest = t; written = e; ended = inl refl })
    (λ e. record { rest = t ++ 10 ∷ []; written = e ∙ append_assoc a (10 ∷ t) (10 ∷ []); ended = inr refl })

over : (a t u text : List ℕ) → text ≡ a ++ 10 ∷ u → Ended t u → Ended (a ++ 10 ∷ t) text
over a t u text e =
    ⊎_elim (λ f. inl (e ∙ ap (λ z. a ++ 10 ∷ z) f)) (λ f. inr (e ∙ ap (λ z. a ++ 10 ∷ z) f ∙ sym (append_assoc a (10 ∷ t) (10 ∷ []))))

-- what follows each line of a key's text
module _ (text g f v h : List ℕ) (is : IsKey text g f v h) where
  below_g : Under (trit_line 103 g) (trit_line 102 f ++ 10 ∷ (trit_line 118 v ++ 10 ∷ number_line 104 h)) text
  below_g = under _ _ text is.written

  below_f : Under (trit_line 102 f) (trit_line 118 v ++ 10 ∷ number_line 104 h) below_g.rest
  below_f = under _ _ below_g.rest below_g.ended

  below_v : Under (trit_line 118 v) (number_line 104 h) below_f.rest
  below_v = under _ _ below_f.rest below_f.ended

  line_g : TritsThen 103 text g below_g.rest
  line_g = record { codes = is.g_codes; written = below_g.written }

  line_f : TritsThen 102 below_g.rest f below_f.rest
  line_f = record { codes = is.f_codes; written = below_f.written }

  line_v : TritsThen 118 below_f.rest v below_v.rest
  line_v = record { codes = is.v_codes; written = below_v.written }

  line_h : IsLast below_v.rest h
  line_h = record { codes = is.h_codes; written = below_v.ended }

-- a key, read line by line
module _ (ng nf nv nh : ℕ) (text : List ℕ) (gs a : List ℕ) (reads_g : TritsRead 103 ng text gs a) (fs b : List ℕ) (reads_f : TritsRead 102 nf a fs b) (vs d : List ℕ) (reads_v : TritsRead 118 nv b vs d) where
  pub no_h : NoneOf nh (IsLast d) → NoKey ng nf nv nh text
  no_h none g f v h lg lf lv lh is =
      let at_g : (below_g text g f v h is).rest ≡ a = reads_g.only g _ lg (line_g text g f v h is) in
      let at_f : (below_f text g f v h is).rest ≡ b = reads_f.only f _ lf (subst (λ t. TritsThen 102 t f (below_f text g f v h is).rest) at_g (line_f text g f v h is)) in
      let at_v : (below_v text g f v h is).rest ≡ d = reads_v.only v _ lv (subst (λ t. TritsThen 118 t v (below_v text g f v h is).rest) at_f (line_v text g f v h is)) in
      none h lh (subst (λ t. IsLast t h) at_v (line_h text g f v h is))

  pub key_read : (hs : List ℕ) → IsLast d hs → IsKey text gs fs vs hs
  key_read hs last =
      let some_d : 0 < length d = ⊎_elim (λ e. omega (arith, ap length e)) (λ e. omega (arith, ap length e)) last.written in
      let in_v = reads_v.reads some_d in
      let in_f = reads_f.reads (omega (arith, ap length in_v.written)) in
      let in_g = reads_g.reads (omega (arith, ap length in_f.written)) in
      record {
        g_codes = in_g.codes;
        f_codes = in_f.codes;
        v_codes = in_v.codes;
        h_codes = last.codes;
        written = over (trit_line 103 gs) _ a text in_g.written (over (trit_line 102 fs) _ b a in_f.written (over (trit_line 118 vs) _ d b in_v.written last.written));
      }

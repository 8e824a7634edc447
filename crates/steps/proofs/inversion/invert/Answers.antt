use Rattle.std.proofs.Common.{rules, ◌≡◌, ℕ, ◌+◌, ◌-◌, ◌≤◌, ◌≢◌, List, length, get_or, zero, suc, true, false, ℤ, pos, negsuc, is_some, Some, None, Option, unwrap_or, sym, refl, ap, ◌∙◌, ap₂, subst, arith, w32, to_z, of_z}
use Rattle.std.proofs.lemmas.Bool.{true≢false}
use borrow.Author.Differences.{ints}
use Rattle.field.specs.Convolution.{tabulate}
use Rattle.field.specs.Meaning.{Arithmetic, code, coded}
use Rattle.divstep.specs.ReadOff.{is_zero, reversed_modulus, divided, read_off, inverse_of, IsInverse, Answers}
use Rattle.divstep.proofs.Answered.{answers_none, answers_read, answers_right}
use Rattle.divstep.proofs.Batched.{bare}
use Rattle.divstep.proofs.Beginnings.{zeros_are, one_is}
use Rattle.divstep.proofs.Divided.{divided_by_batches}
use Rattle.steps.specs.Held.{state_in}
use Rattle.steps.proofs.inversion.invert.Given.{Over}
use Rattle.steps.proofs.inversion.invert.Goals as goal
use Rattle.steps.proofs.inversion.invert.Goals.{After-run}

-- what is written, as the definition has it
row : Arithmetic → ℕ → ℕ → List ℕ → List ℕ
row A c n v = tabulate n (λ k. (coded A).times (get_or v (n - k) 0) c)

row_is : (A : Arithmetic) (p c : ℕ) (v : List ℕ) → read_off A p (Some c) v ≡ Some (row A c p v)
unfolding coded row
row_is A p c v = refl

-- what the test of δ says
tested_no : (d e : ℤ) → e ≡ d → is_zero e ≡ false → d ≢ pos 0
tested_no d e h z k = true≢false (sym (ap is_zero (h ∙ k)) ∙ z)

tested_yes : (d e : ℤ) → e ≡ d → is_zero e ≡ true → d ≡ pos 0
tested_yes d (pos zero) h z = sym h
tested_yes d (pos (suc n)) h z = absurd (true≢false (sym z))
tested_yes d (negsuc n) h z = absurd (true≢false (sym z))

-- after the steps
module _ (g : Over) (c : After-run g) where
  least : 2 ≤ c.args.degree
  least = omega arith

  ended : state_in c.run.new.self ≡ bare (divided g.F.Field.arithmetic c.args.degree c.args.a.now)
  ended =
      let A = g.F.Field.arithmetic in
      let p : ℕ = c.args.degree in
      c.run.ensures.state
      ∙ divided_by_batches A g.met.F.Field.lawful p c.args.a.now least c.requires.long_a c.requires.codes _ _ _ _ _ _ _ _ (omega arith) refl
      (c.set_reversed_modulus.ensures ∙ ap (reversed_modulus A) (omega arith)) c.set_reversed.ensures refl
      (c.fill.ensures.after (λ y e. e) ∙ zeros_are A (p + p) _ (omega arith)) refl (c.set_one.ensures ∙ one_is A (p + p) _ (omega arith))

  same : to_z w32 (of_z w32 c.run.new.self.delta) ≡ c.run.new.self.delta
  same = omega (arith, ints)

  none : is_zero (to_z w32 (of_z w32 c.run.new.self.delta)) ≡ false → inverse_of g.F.Field.arithmetic c.args.degree g.F.Field.recip c.args.a.now ≡ None
  none h = answers_none g.F.Field.arithmetic g.F.Field.recip c.args.degree c.args.a.now (λ z. tested_no _ _ same h (ap (λ s. s.δ) ended ∙ z))

  read : (o : Option ℕ) → is_zero (to_z w32 (of_z w32 c.run.new.self.delta)) ≡ true → o ≡ g.F.Field.recip (code g.F.Field.arithmetic.size (get_or c.run.new.self.f.now 0 0)) →
      inverse_of g.F.Field.arithmetic c.args.degree g.F.Field.recip c.args.a.now ≡ read_off g.F.Field.arithmetic c.args.degree o (divided g.F.Field.arithmetic c.args.degree c.args.a.now).v
  read o z e =
      let zero : c.run.new.self.delta ≡ pos 0 = tested_yes _ _ same z in
      answers_read g.F.Field.arithmetic g.F.Field.recip c.args.degree c.args.a.now g.met.F.Field.lawful g.met.F.Field.inverts least c.requires.long_a c.requires.codes _ o
      (sym (ap (λ s. s.δ) ended) ∙ zero) (ap (λ s. s.f) ended) e

  right : (o : Option (List ℕ)) → inverse_of g.F.Field.arithmetic c.args.degree g.F.Field.recip c.args.a.now ≡ o → Answers g.F.Field.arithmetic c.args.degree c.args.a.now o
  right = answers_right g.F.Field.arithmetic g.F.Field.recip c.args.degree c.args.a.now g.met.F.Field.lawful g.met.F.Field.inverts least c.requires.long_a c.requires.codes

pub returns-then-not-ended : goal.returns-then-not-ended
returns-then-not-ended g c =
    let r = (goal.at.returns-then-not-ended g c).After-run in
    let e = none g r (sym c.ended.ensures ∙ c.if-not-ended.true) in
    record { found = sym (ap is_some e); out_as_read_off = sym (ap (λ o. unwrap_or o c.args.out.now) e); exactly = right g r None e }

pub returns-in_err-c : goal.returns-in_err-c
returns-in_err-c g c =
    let r = (goal.at.returns-in_err-c g c).After-run in
    let e = read g r None (sym c.ended.ensures ∙ c.if-not-ended.false) (search rules) in
    rw c.from_residual.ensures (record { found = sym (ap is_some e); out_as_read_off = sym (ap (λ o. unwrap_or o c.args.out.now) e); exactly = right g r None e })

pub returns : goal.returns
unfolding row
returns g c =
    let A = g.F.Field.arithmetic in
    let p : ℕ = c.args.degree in
    let r = (goal.at.returns g c).After-run in
    let e = read g r (Some c.in_ok-c.c) (sym c.ended.ensures ∙ c.if-not-ended.false) (search rules) ∙ row_is A p c.in_ok-c.c (divided A p c.args.a.now).v in
    let written : c.read_off.new.out ≡ row A c.in_ok-c.c (length c.args.out.now) c.run.new.self.v.now = search rules in
    let out = written ∙ ap₂ (row A c.in_ok-c.c) c.requires.long_out (ap (λ s. s.v) (ended g r)) in
    record {
      found = sym (ap is_some e);
      out_as_read_off = out ∙ sym (ap (λ o. unwrap_or o c.args.out.now) e);
      exactly = subst (IsInverse A p c.args.a.now) (sym out) (right g r _ e);
    }

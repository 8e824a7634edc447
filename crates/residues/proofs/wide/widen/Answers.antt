use Rattle.std.proofs.Common.{ℕ, T, map, nat_abs, refl, ap, sym, ◌∙◌, subst, w16, w32, Fits, to_z, of_z}
use lib.Lanes.{Each1}
use lib.Signed.{non_neg}
use Rattle.residues.proofs.Casts.{Small, all_small, kept, each, wider_is, back, back_is}
use Rattle.residues.proofs.wide.widen.Goals as goal

pub overflow_cast-result-3 : goal.overflow_cast-result-3
overflow_cast-result-3 c =
    let x = c.args.x in
    let s : Each1 Small x = all_small 64 x c.fits-x.0 (λ k h. c.requires k) in
    let P : ℕ → Type 0 = λ a. T (non_neg (to_z w32 a)) × Fits w32 (nat_abs (to_z w32 a)) in
    subst (Each1 P) (sym (ap (map (λ a. of_z w32 (to_z w16 a))) (kept (λ a. a) (λ a h. refl) x s) ∙ kept (λ a. of_z w32 (to_z w16 a)) wider_is x s)) (each P back x s)

pub returns : goal.returns
returns c =
    let x = c.args.x in
    let s : Each1 Small x = all_small 64 x c.fits-x.0 (λ k h. c.requires k) in
    ap (map (λ a. nat_abs (to_z w32 a)))
    (ap (map (λ a. of_z w32 (to_z w16 a))) (kept (λ a. a) (λ a h. refl) x s) ∙ kept (λ a. of_z w32 (to_z w16 a)) wider_is x s)
    ∙ kept (λ a. nat_abs (to_z w32 a)) back_is x s

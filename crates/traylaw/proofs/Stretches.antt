-- Reading and overwriting a stretch of a list, and sheets that show what a tray uses.
-- Main results: `read`, `over`; `begins`, `unmoved`, `settled`.
use Rattle.std.proofs.Common.{◌≡◌, ℕ, ◌≤◌, List, ◌++◌, length, take, drop, sym, refl, ap, ◌∙◌, ap₂, inl, inr, arith}
use Rattle.std.proofs.lemmas.List.{take_at, drop_at, drop-drop, take_all, take-append-le, take-append-drop, take-take, length-take-le}
use Rattle.std.proofs.lemmas.Bool.{cases_lt}
use Rattle.traylaw.specs.Sheets.{written}

pub read : (pre x post : List ℕ) (k n : ℕ) → length pre ≡ k → length x ≡ n → take n (drop k (pre ++ (x ++ post))) ≡ x
read pre x post k n h l = ap (take n) (drop_at pre (x ++ post) k h) ∙ take_at x post n l

pub over : (pre x post y : List ℕ) (k : ℕ) → length pre ≡ k → length x ≡ length y → written k y (pre ++ (x ++ post)) ≡ pre ++ (y ++ post)
over pre x post y k h l =
    ap₂ ◌++◌ (take_at pre (x ++ post) k h)
    (ap (λ t. y ++ t) (sym (drop-drop (length y) k (pre ++ (x ++ post))) ∙ ap (drop (length y)) (drop_at pre (x ++ post) k h) ∙ drop_at x post (length y) l))

-- a sheet that shows what is used and is as long begins with it
pub begins : (n : ℕ) (used sheet : List ℕ) → length used ≡ n → n ≤ length sheet → take n sheet ≡ take (length sheet) used → sheet ≡ used ++ drop n sheet
begins n used sheet h l e = sym (take-append-drop n sheet) ∙ ap (λ t. t ++ drop n sheet) (e ∙ take_all (length sheet) used (omega arith))

-- a sheet that was not changed leaves what is used as it was
pub unmoved : (n : ℕ) (used sheet : List ℕ) → length used ≡ n → take n sheet ≡ take (length sheet) used → take n (sheet ++ drop (length sheet) used) ≡ used
unmoved n used sheet h e = elim (cases_lt n (length sheet)) [
  | inl l ↦ take-append-le n sheet _ (omega arith) ∙ e ∙ take_all (length sheet) used (omega arith)
  | inr l ↦
      ap (λ t. take n (t ++ drop (length sheet) used)) (sym (take_all n sheet l) ∙ e) ∙ ap (take n) (take-append-drop (length sheet) used)
      ∙ take_all n used (omega arith)
]

-- of a sheet that is long enough, what is used is its first part
pub settled : (n : ℕ) (used sheet top below : List ℕ) → n ≤ length sheet → sheet ≡ top ++ below → length top ≤ n →
    (low : List ℕ) × (take n (sheet ++ drop (length sheet) used) ≡ top ++ low)
settled n used sheet top below l e h = (
  drop (length top) (take n sheet),
  take-append-le n sheet _ l ∙ sym (take-append-drop (length top) (take n sheet))
      ∙ ap (λ t. t ++ drop (length top) (take n sheet)) (take-take (length top) n sheet h ∙ ap (take (length top)) e ∙ take_at top below (length top) refl),
)

pub settled_length : (n : ℕ) (used sheet : List ℕ) → n ≤ length sheet → length (take n (sheet ++ drop (length sheet) used)) ≡ n
settled_length n used sheet l = ap length (take-append-le n sheet _ l) ∙ length-take-le n sheet l

-- Places on a sheet: which shelves it reaches, and writes side by side.
-- Main results: `shelf_within`, `entry_within`; `shelf_long`, `shelved_length`; `entry_put`; `overwritten`, `rewritten`; `behind`, `shelf_behind`.
use Rattle.std.proofs.Common.{◌≡◌, ℕ, ◌+◌, ◌*◌, ◌<◌, ◌≤◌, List, ◌++◌, length, take, drop, replicate, sym, refl, ap, ◌∙◌, ap₂, add-mul, mul-add, mul_assoc, mul_comm, mul-le-mul_left, mul-suc, mul_right_comm, arith}
use Rattle.std.proofs.lemmas.Slice.{take-put_mid, take-put_mid_below, drop-put_mid}
use Rattle.std.proofs.lemmas.List.{take-append-drop, drop-drop, append_assoc, length-append, length-drop, length-take, length-take-le}
use Rattle.traylaw.specs.Sheets.{written, room, shelf, shelved, put_sheet}

-- a shelf of an entry ends within the tray's part of the sheet, and so do an entry's three
pub shelf_within : (p capacity k : ℕ) → k < 3 * capacity → k * p + p ≤ room p capacity
shelf_within p capacity k h =
    omega (arith, mul_comm k p, mul-suc p k, mul-le-mul_left p h, ap (λ n. n * capacity) (mul_comm 3 p), mul_assoc p 3 capacity)

pub entry_within : (p capacity i : ℕ) → i < capacity → 3 * i * p + 3 * p ≤ room p capacity
entry_within p capacity i h = omega (arith, mul_right_comm 3 i p, mul-suc (3 * p) i, mul-le-mul_left (3 * p) h)

pub shelf_long : (p k : ℕ) (s : List ℕ) → k * p + p ≤ length s → length (shelf p k s) ≡ p
unfolding shelf
shelf_long p k s h = length-take-le p (drop (k * p) s) (simp length-drop (omega arith))

-- what lies behind a write stays
past : (k m : ℕ) (a s : List ℕ) → k + length a ≤ m → k ≤ length s → drop m (written k a s) ≡ drop m s
past k m a s e h = ap (λ l. drop m (take k s ++ (a ++ l))) (sym (drop-drop (length a) k s)) ∙ drop-put_mid k (length a) s a m e h refl

-- one write after another, side by side
beside : (k j : ℕ) (a b s : List ℕ) → j ≡ k + length a → j ≤ length s → written j b (written k a s) ≡ written k (a ++ b) s
beside k j a b s e h =
    let same : j + length b ≡ k + length (a ++ b) = omega (arith, length-append a b) in
    ap₂ (λ x y. x ++ (b ++ y)) (ap (λ l. take j (take k s ++ (a ++ l))) (sym (drop-drop (length a) k s)) ∙ take-put_mid k (length a) s a j e (omega arith))
    (past k (j + length b) a s (omega arith) (omega arith) ∙ ap (λ i. drop i s) same)
    ∙ simp append_assoc

-- a write over what was just written, and of what stands there already
pub overwritten : (k : ℕ) (a b s : List ℕ) → length a ≡ length b → k ≤ length s → written k b (written k a s) ≡ written k b s
overwritten k a b s l h =
    ap₂ (λ x y. x ++ (b ++ y)) (ap (λ t. take k (take k s ++ (a ++ t))) (sym (drop-drop (length a) k s)) ∙ take-put_mid_below k (length a) s a k (omega arith) h)
    (past k (k + length b) a s (omega arith) h)

pub rewritten : (p k : ℕ) (b s : List ℕ) → k + p ≤ length s → take p (drop k s) ≡ b → written k b s ≡ s
rewritten p k b s h e =
    let long : length b ≡ p = ap length (sym e) ∙ length-take-le p (drop k s) (simp length-drop (omega arith)) in
    ap₂ (λ x y. take k s ++ (x ++ y)) (sym e) (ap (λ n. drop (k + n) s) long ∙ sym (drop-drop p k s))
    ∙ ap (λ y. take k s ++ y) (take-append-drop p (drop k s)) ∙ take-append-drop k s

-- an entry put on its three shelves, one after another
pub entry_put : (p i : ℕ) (num den s : List ℕ) → length num ≡ p → length den ≡ p → 3 * i * p + 3 * p ≤ length s →
    shelved p (3 * i + 2) (replicate p 0) (shelved p (3 * i + 1) den (shelved p (3 * i) num s)) ≡ put_sheet p i s num den
unfolding shelved
entry_put p i num den s n d h =
    let at = 3 * i * p in
    let second : (3 * i + 1) * p ≡ at + p = omega (arith, add-mul (3 * i) 1 p) in
    let third : (3 * i + 2) * p ≡ at + p + p = omega (arith, add-mul (3 * i) 2 p) in
    ap (written ((3 * i + 2) * p) (replicate p 0)) (beside at ((3 * i + 1) * p) num den s (omega arith) (omega arith))
    ∙ beside at ((3 * i + 2) * p) (num ++ den) (replicate p 0) s (omega (arith, length-append num den)) (omega arith)
    ∙ ap (λ (t : List ℕ). written at t s) (append_assoc num den (replicate p 0))

pub next_entry : (i p : ℕ) → 3 * (i + 1) * p ≡ 3 * i * p + 3 * p
next_entry i p = omega (arith, mul_right_comm 3 (i + 1) p, mul_right_comm 3 i p, mul-add (3 * p) i 1)

-- the entries after entry i + 1 stay where its product shelf is written
pub behind : (p i : ℕ) (a s t : List ℕ) → length a ≡ p → 3 * (i + 1) * p ≤ length s → drop (3 * i * p) s ≡ drop (3 * i * p) t →
    drop (3 * (i + 1) * p) (shelved p (3 * i + 2) a s) ≡ drop (3 * (i + 1) * p) t
unfolding shelved
behind p i a s t l h e =
    let m : 3 * (i + 1) * p ≡ 3 * i * p + 3 * p = next_entry i p in
    let k : 3 * (i + 1) * p ≡ (3 * i + 2) * p + length a = omega (arith, add-mul (3 * i) 2 p) in
    past ((3 * i + 2) * p) (3 * (i + 1) * p) a s (omega arith) (omega arith)
    ∙ ap (λ n. drop n s) m ∙ sym (drop-drop (3 * p) (3 * i * p) s) ∙ ap (drop (3 * p)) e ∙ drop-drop (3 * p) (3 * i * p) t ∙ ap (λ n. drop n t) (sym m)

-- and so do their shelves, shelf j of entry i + 1 being shelf 3i + j
pub shelf_behind : (p i j : ℕ) (s t : List ℕ) → drop (3 * i * p) s ≡ drop (3 * i * p) t → shelf p (3 * i + j) s ≡ shelf p (3 * i + j) t
unfolding shelf
shelf_behind p i j s t e =
    let k : (3 * i + j) * p ≡ 3 * i * p + j * p = omega (arith, add-mul (3 * i) j p) in
    ap (take p) (ap (λ n. drop n s) k ∙ sym (drop-drop (j * p) (3 * i * p) s) ∙ ap (drop (j * p)) e ∙ drop-drop (j * p) (3 * i * p) t ∙ ap (λ n. drop n t) (sym k))

pub shelved_length : (p k : ℕ) (a s : List ℕ) → length a ≡ p → k * p + p ≤ length s → length (shelved p k a s) ≡ length s
unfolding shelved
shelved_length p k a s l h = length-append (take (k * p) s) _ ∙ simp (length-append, length-take, length-drop) (omega arith)

-- What the window of a batch holds.
-- Main definitions: `held_in`, `code_lists`.
use Rattle.std.specs.Prelude.{ℕ, List, slice_index}
use Rattle.field.specs.Rings.{Operations}
use Rattle.divstep.specs.Steps.{State, Held, lists, state_of}
use Rattle.window.specs.declared.window.Window.{Window}

abbrev pub held_in : Window → State (List ℕ)
held_in w = state_of w.delta w.f w.g w.u w.v w.q w.r

-- lists as `lists O` has them, where the zero of O is the number 0
abbrev pub code_lists : Operations ℕ → Held ℕ (List ℕ)
code_lists O = record { first = λ a. slice_index a 0; mix = (lists O).mix; down = (lists O).down; up = (lists O).up }

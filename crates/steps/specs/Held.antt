-- What lists that were lent hold.
use Rattle.std.specs.Prelude.{◌≡◌, ℕ, List}
use Rattle.divstep.specs.Steps.{State, state_of}
use Rattle.steps.specs.declared.run.Lists.{Lists}

abbrev pub state_in : Lists → State (List ℕ)
state_in l = state_of l.delta l.f.now l.g.now l.u.now l.v.now l.q.now l.r.now

-- a and b are of the same slices
pub record SameSlices (a b : Lists) : Type 0 where
  pub f : a.f.ghost_name ≡ b.f.ghost_name
  pub g : a.g.ghost_name ≡ b.g.ghost_name
  pub u : a.u.ghost_name ≡ b.u.ghost_name
  pub v : a.v.ghost_name ≡ b.v.ghost_name
  pub q : a.q.ghost_name ≡ b.q.ghost_name
  pub r : a.r.ghost_name ≡ b.r.ghost_name
  pub scratch : a.scratch.ghost_name ≡ b.scratch.ghost_name

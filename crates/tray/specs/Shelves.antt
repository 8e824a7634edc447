-- What every method leaves of how a sheet is cut into shelves.
use Rattle.std.specs.Prelude.{◌≡◌}
use Rattle.tray.specs.declared.shelves.Shelves.{Shelves}

-- it is the same sheet, and cut for the same tray: only what is on the shelves may differ
pub record KeepsCut (old new : Shelves) : Type 0 where
  pub same_reference : new.sheet.ghost_name ≡ old.sheet.ghost_name
  pub degree : new.p ≡ old.p
  pub capacity : new.capacity ≡ old.capacity

-- The words of the input that name a field.
use Rattle.std.specs.Prelude.{ℕ, List, codes}
use Rattle.replay.specs.declared.lines.FieldName.{FieldName}
use Rattle.replay.specs.declared.lines.FieldName.TheVariants.{Z3, Z5, Z4591}

abbrev pub name_of : FieldName → List ℕ
name_of Z3 = codes "Z_3"
name_of Z5 = codes "Z_5"
name_of Z4591 = codes "Z_4591"

-- What each refusal tells: its number, the entry that it speaks of and the steps that were made.
use Rattle.refusal.specs.declared.Refusal.{Refusal}
use Rattle.refusal.specs.declared.Refusal.TheVariants.{Degree, Capacity, Range, Sheet, Scratch, Length, NotACode, NoEntry, Full, Shelf, NoInverse}
use Rattle.refusal.specs.declared.Report.{Report}

abbrev pub report_of : Refusal → Report
report_of Degree = record { number = 1; entry = 0; steps = 0 }
report_of Capacity = record { number = 2; entry = 0; steps = 0 }
report_of Range = record { number = 3; entry = 0; steps = 0 }
report_of Sheet = record { number = 4; entry = 0; steps = 0 }
report_of Scratch = record { number = 5; entry = 0; steps = 0 }
report_of Length = record { number = 6; entry = 0; steps = 0 }
report_of (NotACode e) = record { number = 7; entry = e; steps = 0 }
report_of NoEntry = record { number = 8; entry = 0; steps = 0 }
report_of Full = record { number = 9; entry = 0; steps = 0 }
report_of Shelf = record { number = 10; entry = 0; steps = 0 }
report_of (NoInverse e n) = record { number = 13; entry = e; steps = n }

-- What is told of a text that is no key.
use Rattle.std.specs.Prelude.{ℕ, List, ◌++◌, codes, decimal}
use Rattle.keytext.specs.declared.malformed.Line.{Line}
use Rattle.keytext.specs.declared.malformed.Line.TheVariants.{G, F, V, H}
use Rattle.keytext.specs.declared.malformed.Malformed.{Malformed}
use Rattle.keytext.specs.declared.malformed.Malformed.TheVariants.{Missing, WrongLabel, WrongCount, NotANumber, OutOfRange, TrailingText}

abbrev pub name_of : Line → List ℕ
name_of G = codes "line g"
name_of F = codes "line f"
name_of V = codes "line v"
name_of H = codes "line h"

abbrev pub message_of : Malformed → List ℕ
message_of (Missing l) = name_of l ++ codes ": the line is missing"
message_of (WrongLabel l) = name_of l ++ codes ": wrong label"
message_of (WrongCount l) = name_of l ++ codes ": wrong count of numbers"
message_of (NotANumber l k) = name_of l ++ (codes ": number " ++ (decimal k ++ codes " is not written as a number"))
message_of (OutOfRange l k) = name_of l ++ (codes ": number " ++ (decimal k ++ codes " is out of range"))
message_of TrailingText = codes "text after line h"

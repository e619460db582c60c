-- Names as the lists of their bytes.
use Rattle.std.specs.Prelude.{ℕ, List}

abbrev pub Name : Type 0
Name = List ℕ

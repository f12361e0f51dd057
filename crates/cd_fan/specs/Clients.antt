-- Trusted: a client in memory as contracts see it.
use Rattle.std.specs.Prelude.{ℕ, List}

-- the bytes got, the numbers of the calls that fail, the number of the next call, and how many failed
pub record ClientView : Type 0 where
  pub got : List ℕ
  pub fails : List ℕ
  pub calls : ℕ
  pub faults : ℕ

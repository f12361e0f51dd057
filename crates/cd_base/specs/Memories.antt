-- Trusted: sources and sinks as contracts see them, in memory and over std.
use Rattle.std.specs.Prelude.{ℕ, List}

-- the bytes left, the numbers of the calls that fail, the number of the next call, and how many failed
pub record SourceView : Type 0 where
  pub left : List ℕ
  pub fails : List ℕ
  pub calls : ℕ
  pub faults : ℕ

-- the bytes taken, and how often it could not grow
pub record SteadySinkView : Type 0 where
  pub taken : List ℕ
  pub faults : ℕ

-- the bytes taken, the numbers of the calls that fail, the number of the next call, and how many failed
pub record SinkView : Type 0 where
  pub taken : List ℕ
  pub fails : List ℕ
  pub calls : ℕ
  pub faults : ℕ

-- a source or a sink over a reader or a writer of std, and how many calls failed
pub record StdView (X : Type 0) : Type 0 where
  pub inner : X
  pub faults : ℕ

-- What is seen of a schedule that was carried out.
use Rattle.std.specs.Prelude.{List}
use Rattle.mpt_trace.specs.declared.entry.Entry.{Entry}
use Rattle.mpt_trace.specs.declared.summary.Summary.{Summary}

pub record ReplaySeen : Type 0 where
  pub entries : List Entry
  pub summary : Summary

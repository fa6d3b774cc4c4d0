-- The words of a plug or an unplug put nothing and take nothing.
use Rattle.std.proofs.Common.{List, [], ◌∷◌}
use Rattle.mpt_trace.specs.declared.entry.Entry.{Entry}
use Rattle.mpt_trace.specs.declared.entry.Entry.TheVariants as entry
use Rattle.mpt_wire.specs.Walks.Passes.{EachEntry}
use Rattle.law_flights.proofs.HostQuiet.{IsQuiet}
use Rattle.law_moves.proofs.CasesTold.{IsPlugWord}

plug_one : (e : Entry) → IsPlugWord e → IsQuiet e
plug_one (entry.Given i) h = tt
plug_one (entry.Refuse call cause) h = tt
plug_one (entry.Idle x) h = absurd h
plug_one (entry.Put l i) h = h
plug_one (entry.Take l i) h = h
plug_one (entry.Bind handle address plug) h = absurd h
plug_one (entry.Unbind handle) h = absurd h
plug_one entry.UnbindAll h = absurd h
plug_one (entry.Run address tag) h = absurd h
plug_one entry.HostUp h = absurd h
plug_one (entry.Ready address handle) h = absurd h
plug_one (entry.Lost address handle) h = absurd h
plug_one (entry.Accept n address smid) h = absurd h
plug_one (entry.RefuseSubmit n cause) h = absurd h
plug_one (entry.Answer n outcome) h = absurd h
plug_one (entry.AbortEnd n outcome) h = absurd h
plug_one (entry.TargetEnd address outcome) h = absurd h
plug_one entry.ResetDone h = absurd h

pub quiet_plug : (t : List Entry) → EachEntry IsPlugWord t → EachEntry IsQuiet t
quiet_plug [] h = tt
quiet_plug (e ∷ t) h = (plug_one e h.0, quiet_plug t h.1)

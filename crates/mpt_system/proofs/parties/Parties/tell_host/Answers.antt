use Rattle.std.proofs.Common.{◌≡◌, ◌++◌, ◌∷◌, Option, sym, ap, ◌∙◌, subst}
use Rattle.std.specs.Prelude.{option_to_list}
use Rattle.std.specs.Option.{option_map}
use Rattle.mpt_trace.specs.declared.entry.Entry.{Entry}
use Rattle.mpt_trace.specs.declared.input.Input.{Input}
use Rattle.mpt_trace.specs.declared.refusal.Refusal.{Refusal}
use Rattle.mpt_rules.specs.Host.Parts.{Host}
use Rattle.mpt_rules.specs.World.State.{World}
use Rattle.mpt_system.specs.Asking.{host_asked, refusal_entry}
use Rattle.mpt_system.specs.Parties.{whole_of, world_of}
use Rattle.mpt_system.specs.Whole.{HasDone}
use Rattle.mpt_system.specs.declared.parties.Parties.{Parties}
use Rattle.mpt_system.proofs.Asked.{done_written, more_told, tells_host, told_to_host}
use Rattle.mpt_system.proofs.parties.Parties.tell_host.Goals as goal

pub returns : goal.returns
returns c =
    let old : Parties = c.args.self.now in
    let w : World = world_of old in
    let i : Input = c.args.input.now in
    let middle : Parties = record {
      alloc = old.alloc;
      host = c.ask_host.new.host;
      ioc = old.ioc;
      fabric = old.fabric;
      down = old.down;
      up = old.up;
      out = old.out;
      back = old.back;
      trace = c.enter.new.trace;
    } in
    let asked = c.in_ok-cause.ensures in
    let refusal = λ (cause : Option Refusal). c.args.given ∷ option_to_list (option_map (refusal_entry i) cause) in
    let entered : c.enter.new.trace.entries ≡ old.trace.entries ++ refusal (host_asked w.host i).answer =
    c.enter.ensures ∙ (ap (λ es. es ++ refusal c.in_ok-cause.cause) c.in_ok-reserve.ensures.same ∙ ap (λ cause. old.trace.entries ++ refusal cause) asked.0) in
    let entries : (whole_of middle).entries ≡ (whole_of old).entries ++ (refusal (host_asked w.host i).answer ++ (host_asked w.host i).told) =
    more_told old.trace.entries c.enter.new.trace.entries old.host.told c.ask_host.new.host.told old.ioc.told (refusal (host_asked w.host i).answer)
    (host_asked w.host i).told entered asked.2 c.requires.written.host c.requires.written.ioc in
    subst (λ o. HasDone (whole_of old) o c.write_told.result (whole_of c.write_told.new.self)) (sym (tells_host w i c.requires.host))
    (done_written (whole_of old) (whole_of middle) (whole_of c.write_told.new.self) (told_to_host w i) c.write_told.result
    (ap (λ (h : Host). record w { host = h }) asked.1)
    (entries ∙ ap (λ (e : Entry). (whole_of old).entries ++ ((e ∷ option_to_list (option_map (refusal_entry i) (host_asked w.host i).answer)) ++ (host_asked w.host i).told)) c.requires.given)
    c.write_told.ensures.ok c.write_told.ensures.stays)

-- An event that comes up tells of no disk as added under a handle that the host has: what is on its way leads from the host's side
-- of the handle to the controller's.
use Rattle.std.proofs.Common.{◌≡◌, ℕ, zero, suc, ◌+◌, ◌==◌, ◌&&◌, ◌||◌, Bool, true, false, if◌then◌else◌, List, [], ◌∷◌, ◌++◌, map, Some, None, refl, ap, sym, ◌∙◌, subst, arith, option_map}
use Rattle.std.specs.List.{filter_map}
use Rattle.mpi_layout.specs.Rows.{field}
use Rattle.removal.specs.Handles.{IsHandle, phase_at}
use Rattle.removal.specs.declared.phase.Phase.{Phase}
use Rattle.removal.specs.declared.phase.Phase.TheVariants as phase
use Rattle.event_msgs.specs.EventReply.{event_reply_layout, event_reply_values}
use Rattle.event_msgs.specs.Topology.{topology_layout, topology_values}
use Rattle.event_msgs.specs.TopologyEntry.{topology_entry_layout, topology_entry_values}
use Rattle.mpt_messages.specs.IocFrames.{reply_frame}
use Rattle.mpt_messages.specs.declared.ioc_reply.IocReply.TheVariants as reply
use Rattle.mpt_trace.specs.declared.host_state.HostState.{HostState}
use Rattle.mpt_trace.specs.declared.host_state.HostState.TheVariants as state
use Rattle.mpt_wire.specs.Machine.Causes.{is_resetting, is_up}
use Rattle.mpt_wire.specs.Messages.Fields.{Change, changes_from, changes_in}
use Rattle.mpt_rules.specs.declared.said.Said.{Said}
use Rattle.mpt_rules.specs.declared.said.Said.TheVariants as said
use Rattle.mpt_rules.specs.declared.why.Why.TheVariants as why
use Rattle.mpt_rules.specs.Host.Removal.{added_handles, first_not_absent, is_absent, is_disk_handle}
use Rattle.mpt_rules.specs.Host.Strange.{not_absent_in}
use Rattle.mpt_rules.specs.Host.Takes.{is_starting}
use Rattle.mpt_rules.specs.Ioc.Tables.{binding_of}
use Rattle.mpt_rules.specs.World.Counts.{how_many}
use Rattle.mpt_rules.specs.World.Lines.{up_line}
use Rattle.mpt_rules.specs.World.News as news
use Rattle.mpt_rules.specs.World.News.{News, news_in, news_in_change}
use Rattle.mpt_rules.specs.World.State.{World}
use Rattle.law_facts.specs.Clock.{in_begun, in_normal, is_live}
use Rattle.law_facts.specs.Facts.{Facts}
use Rattle.law_facts.specs.Handles.{Comes, IsFreed, Side, Turn, freed_in, removal_of, replayed, side_of_binding, side_of_phase, turn_of, turns_of}
use Rattle.law_facts.specs.History.{History}
use Rattle.law_facts.specs.Messages.{event_like}
use Rattle.law_facts.specs.Words.{is_calm_said, is_reply, others}
use Rattle.law_moves.proofs.Counted.{how_many-cons, others-cons}

-- ---- the one change of an event

abbrev pub change_of : List ℕ → Bool → Change
change_of frame added = record { handle = field frame 0x28 2; status = if added then 1 else 2 }

topology_changes : (context handle expander phys phy : ℕ) (added : Bool) → changes_in (reply_frame (reply.Topology context handle expander phys phy added)) ≡ change_of (reply_frame (reply.Topology context handle expander phys phy added)) added ∷ []
unfolding event_reply_layout event_reply_values topology_layout topology_values topology_entry_layout topology_entry_values field changes_from
topology_changes context handle expander phys phy true = refl
topology_changes context handle expander phys phy false = refl

pub changes_are : (frame : List ℕ) (added : Bool) → frame ≡ event_like frame added → changes_in frame ≡ change_of frame added ∷ []
changes_are frame added e = subst (λ x. changes_in x ≡ change_of x added ∷ []) (sym e) (topology_changes _ _ _ _ _ added)

module _ (w : World) (h : History) (f : Facts w h) (bytes page sense : List ℕ) (more : List Said) (front : up_line w 0 ≡ said.Framed 0 bytes page sense ∷ more) where
  one_reply : how_many is_reply (up_line w 0) ≡ 1 + how_many is_reply more
  one_reply = ap (how_many is_reply) front ∙ how_many-cons is_reply (said.Framed 0 bytes page sense) more

  -- no reset goes on, so the host is starting or up
  pub normal : is_resetting w.host.mode ≡ false → in_normal w ≡ true
  normal n = by_mode w.host.mode refl
    where
      by_mode : (m : HostState) → w.host.mode ≡ m → (is_starting m || is_up m) ≡ true
      by_mode state.Starting e = refl
      by_mode state.Up e = refl
      by_mode state.Off e =
          let z = (f.clock.phase_table.off (ap Rattle.law_facts.specs.Words.is_off e)).up 0 in
          let c = ap (others is_calm_said) front ∙ others-cons is_calm_said (said.Framed 0 bytes page sense) more in
          absurd (omega (arith, z, c))
      by_mode state.Resetting e = let z : true ≡ false = sym (ap is_resetting e) ∙ n in absurd (cc)

  pub live : is_resetting w.host.mode ≡ false → is_live w ≡ true
  live n = by_live (is_live w) refl
    where
      not_begun : in_begun w ≡ false
      not_begun = ap (λ b. b && (w.host.asked == w.ioc.generation)) n

      by_live : (b : Bool) → is_live w ≡ b → b ≡ true
      by_live true e = refl
      by_live false e = let z = f.clock.no_reply_before_init.before not_begun e 0 in let c = one_reply in absurd (omega (arith, z, c))

  -- the turns of the handle begin with that of the event
  news_is : (handle : ℕ) → changes_in bytes ≡ record { handle = handle; status = 1 } ∷ [] → news_in handle (said.Framed 0 bytes page sense) ≡ news.Added ∷ []
  news_is handle e = ap (filter_map (news_in_change handle)) e ∙ named (handle == handle) (same handle)
    where
      same : (n : ℕ) → (n == n) ≡ true
      same n = grind arith

      named : (b : Bool) → b ≡ true → filter_map (λ (c : Change). if b then Some news.Added else None) (record { handle = handle; status = 1 } ∷ []) ≡ news.Added ∷ []
      named true e = refl
      named false e = absurd (cc)

  pub none_freed : (s : ℕ) → freed_in s (said.Framed 0 bytes page sense) ≡ []
  none_freed zero = refl
  none_freed (suc k) = ap (λ b. if b then IsFreed ∷ [] else []) (apart k)
    where
      apart : (k : ℕ) → (0 == suc k) ≡ false
      apart k = grind arith

  turns_begin : (s handle : ℕ) → changes_in bytes ≡ record { handle = handle; status = 1 } ∷ [] → turns_of s handle (up_line w 0) ≡ Comes ∷ turns_of s handle more
  unfolding turns_of
  turns_begin s handle e =
      ap (turns_of s handle) front
      ∙ (ap (λ xs. xs ++ (map turn_of (news_in handle (said.Framed 0 bytes page sense)) ++ turns_of s handle more)) (none_freed s)
      ∙ ap (λ xs. map turn_of xs ++ turns_of s handle more) (news_is handle e))

  -- so the host doesn't have the handle
  vacant : (p : Phase) (ts : List Turn) (side : Side) → replayed (Some (side_of_phase p)) (Comes ∷ ts) ≡ Some side → is_absent p ≡ true
  vacant phase.Absent ts side e = refl
  vacant phase.WaitRead ts side e = absurd (cc)
  vacant (phase.Reading s) ts side e = absurd (cc)
  vacant (phase.Ready address) ts side e = absurd (cc)
  vacant phase.WaitHigh ts side e = absurd (cc)
  vacant (phase.Resetting s) ts side e = absurd (cc)
  vacant phase.WaitInternal ts side e = absurd (cc)
  vacant (phase.Removing s) ts side e = absurd (cc)

  absent : (handle : ℕ) → IsHandle handle → changes_in bytes ≡ record { handle = handle; status = 1 } ∷ [] → is_resetting w.host.mode ≡ false → is_absent (phase_at w.host.phases handle) ≡ true
  absent handle i e n =
      let p = phase_at w.host.phases handle in
      let l = (f.handles.each handle i).life (normal n) (live n) in
      vacant p (turns_of (removal_of p) handle more) (side_of_binding (binding_of w.ioc handle)) (sym (ap (replayed (Some (side_of_phase p))) (turns_begin (removal_of p) handle e)) ∙ l)

  -- whichever of the two it tells
  not_strange : (added : Bool) → IsHandle (field bytes 0x28 2) → bytes ≡ event_like bytes added → (b : Bool) → is_resetting w.host.mode ≡ b
      → (if b then None else option_map why.NotAbsent (first_not_absent w.host.phases (added_handles (changes_in bytes)))) ≡ None
  unfolding first_not_absent
  not_strange added i e true m = refl
  not_strange false i e false m = ap (λ cs. option_map why.NotAbsent (first_not_absent w.host.phases (added_handles cs))) (changes_are bytes false e)
  not_strange true i e false m =
      ap (λ cs. option_map why.NotAbsent (first_not_absent w.host.phases (added_handles cs))) (changes_are bytes true e)
      ∙ named (is_disk_handle (field bytes 0x28 2)) (absent (field bytes 0x28 2) i (changes_are bytes true e) m)
    where
      named : (b : Bool) → is_absent (phase_at w.host.phases (field bytes 0x28 2)) ≡ true
          → option_map why.NotAbsent (first_not_absent w.host.phases (filter_map (λ (c : Change). if b then Some c.handle else None) (change_of bytes true ∷ []))) ≡ None
      named false a = refl
      named true a = ap (λ c. option_map why.NotAbsent (if c then None else Some (field bytes 0x28 2))) a

  pub events_say : (added : Bool) → IsHandle (field bytes 0x28 2) → bytes ≡ event_like bytes added → not_absent_in w.host bytes ≡ None
  events_say added i e = not_strange added i e (is_resetting w.host.mode) refl

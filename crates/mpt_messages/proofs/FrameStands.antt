-- A frame of the host or of the controller stands for what it says.
use Rattle.std.proofs.Common.{◌≡◌, ℕ, ◌+◌, ◌-◌, ◌^◌, ◌<◌, ◌≤◌, IsTrue, Bool, Option, Some, None, List, [], ◌∷◌, ◌++◌, length, take, drop, replicate, append_assoc, append-nil, length-append, refl, sym, ap, subst, ◌∙◌, lit<, arith}
use Rattle.std.proofs.lemmas.List.{drop_all}
use Rattle.std.proofs.lemmas.Bool.Decides.{nat_tests}
use Rattle.std.proofs.Math.Seq.{drop-append_seam, take-append_seam}
use Rattle.mpi_layout.specs.Rows.{Stands, values_fit}
use Rattle.scsi_msgs.specs.ScsiIo.{scsi_io_layout, scsi_io_values}
use Rattle.scsi_msgs.specs.TaskAsk.{task_ask_layout, task_ask_values}
use Rattle.ioc_msgs.specs.IocInit.{ioc_init_layout, ioc_init_values}
use Rattle.ioc_msgs.specs.IocFacts.{ioc_facts_layout, ioc_facts_values}
use Rattle.config_pages.specs.ConfigAsk.{config_ask_layout, config_ask_values}
use Rattle.ioc_msgs.specs.PortFacts.{port_facts_layout, port_facts_values}
use Rattle.ioc_msgs.specs.PortEnable.{port_enable_layout, port_enable_values}
use Rattle.event_msgs.specs.EventAsk.{event_ask_layout, event_ask_values}
use Rattle.event_msgs.specs.EventAck.{event_ack_layout, event_ack_values}
use Rattle.ioc_msgs.specs.UnitControl.{unit_control_layout, unit_control_values}
use Rattle.scsi_msgs.specs.ScsiReply.{scsi_reply_layout, scsi_reply_values}
use Rattle.scsi_msgs.specs.TaskReply.{task_reply_layout, task_reply_values}
use Rattle.ioc_msgs.specs.IocFactsReply.{ioc_facts_reply_layout, ioc_facts_reply_values}
use Rattle.config_pages.specs.ConfigReply.{config_reply_layout, config_reply_values}
use Rattle.ioc_msgs.specs.PortFactsReply.{port_facts_reply_layout, port_facts_reply_values}
use Rattle.event_msgs.specs.EventReply.{event_reply_layout, event_reply_values}
use Rattle.ioc_msgs.specs.UnitControlReply.{unit_control_reply_layout, unit_control_reply_values}
use Rattle.event_msgs.specs.Topology.{topology_layout, topology_values}
use Rattle.event_msgs.specs.TopologyEntry.{topology_entry_layout, topology_entry_values}
use Rattle.scsi_msgs.specs.ScsiReply.{ScsiReplyStands, scsi_reply_fit}
use Rattle.scsi_msgs.proofs.ScsiReplyTail.{fit_parts}
use Rattle.event_msgs.specs.EventReply.{EventReplyStands, event_reply_fit}
use Rattle.event_msgs.specs.Topology.{TopologyStands}
use Rattle.event_msgs.specs.TopologyEntry.{entry_at}
use Rattle.mpi_layout.specs.Tail.{padded}
use Rattle.event_msgs.specs.declared.topology_entry.TopologyEntry.{TopologyEntry}
use Rattle.event_msgs.specs.declared.event_data.EventData.TheVariants as kind
use Rattle.event_msgs.proofs.EventBytes.{fit_parts as event_parts}
use Rattle.event_msgs.proofs.TopologyList.{topology_parts}
use Rattle.event_msgs.proofs.Entries.{entry_behind}
use Rattle.event_msgs.proofs.TopologyEntryFields.{entry_fits, entry_is}
use Rattle.event_msgs.specs.TopologyEntry.{blank as blank_topology_entry}
use Rattle.ioc_msgs.specs.declared.ioc_facts.TheConstants.IocFacts.{BLANK as blank_ioc_facts}
use Rattle.ioc_msgs.specs.declared.port_enable.TheConstants.PortEnable.{BLANK as blank_port_enable}
use Rattle.ioc_msgs.specs.declared.port_facts.TheConstants.PortFacts.{BLANK as blank_port_facts}
use Rattle.mpt_messages.specs.FrameBytes.{layout_bytes, data_bytes, entry_bytes, message_frame}
use Rattle.mpt_messages.specs.declared.host_ask.HostAsk.{HostAsk}
use Rattle.mpt_messages.specs.declared.host_ask.HostAsk.TheVariants as ask
use Rattle.mpt_messages.specs.declared.ioc_reply.IocReply.{IocReply}
use Rattle.mpt_messages.specs.declared.ioc_reply.IocReply.TheVariants as reply
use Rattle.mpt_messages.specs.declared.message.Message.{Message}
use Rattle.mpt_messages.specs.declared.message.Message.TheVariants as message
use Rattle.mpt_messages.specs.HostFrames.{host_message, scsi_io_asked, task_asked, page_asked, removal_asked, ack_asked, notification_asked, init_asked}
use Rattle.mpt_messages.specs.IocFrames.{ReplyStands, ioc_message, reply_frame, scsi_answered, task_answered, config_answered, facts_answered, port_answered, removal_answered, topology_told, change_list, change_entry, notified}
use Rattle.mpt_messages.specs.Message.{MessageStands, message_fit}
use Rattle.mpt_messages.proofs.IocFits.{notified_fits}
use Rattle.mpt_messages.proofs.LayoutStands.{bytes_stand, layout_bytes-length}
use Rattle.mpt_messages.proofs.Shapes.{scsi_io-whole, task_ask-whole, ioc_init-whole, ioc_facts-whole, config_ask-whole, port_facts-whole, port_enable-whole, event_ask-whole, event_ack-whole, unit_control-whole, scsi_reply-whole, task_reply-whole, ioc_facts_reply-whole, config_reply-whole, port_facts_reply-whole, event_reply-whole, unit_control_reply-whole, topology-whole, topology_entry-whole}
use Rattle.mpt_messages.proofs.ValueCounts.{scsi_io-paired, task_ask-paired, ioc_init-paired, ioc_facts-paired, config_ask-paired, port_facts-paired, port_enable-paired, event_ask-paired, event_ack-paired, unit_control-paired, scsi_reply-paired, task_reply-paired, ioc_facts_reply-paired, config_reply-paired, port_facts_reply-paired, event_reply-paired, unit_control_reply-paired, topology-paired, topology_entry-paired}

-- what the host writes
pub host_frame_stands : (asked : HostAsk) → IsTrue (message_fit (host_message asked)) → MessageStands (host_message asked) (message_frame (host_message asked))
host_frame_stands (ask.ScsiIo smid handle lun cdb cdb_len len write) fit = bytes_stand scsi_io_layout (scsi_io_values (scsi_io_asked smid handle lun cdb cdb_len len write)) (replicate (128 - 108) 0) (scsi_io-whole).tiled (scsi_io-paired (scsi_io_asked smid handle lun cdb cdb_len len write)) fit
host_frame_stands (ask.Task handle task_type task_mid) fit = bytes_stand task_ask_layout (task_ask_values (task_asked handle task_type task_mid)) (replicate (128 - 52) 0) (task_ask-whole).tiled (task_ask-paired (task_asked handle task_type task_mid)) fit
host_frame_stands (ask.PageRead smid handle) fit = bytes_stand config_ask_layout (config_ask_values (page_asked smid handle)) (replicate (128 - 40) 0) (config_ask-whole).tiled (config_ask-paired (page_asked smid handle)) fit
host_frame_stands (ask.Remove handle) fit = bytes_stand unit_control_layout (unit_control_values (removal_asked handle)) (replicate (128 - 44) 0) (unit_control-whole).tiled (unit_control-paired (removal_asked handle)) fit
host_frame_stands (ask.Ack event context) fit = bytes_stand event_ack_layout (event_ack_values (ack_asked event context)) (replicate (128 - 20) 0) (event_ack-whole).tiled (event_ack-paired (ack_asked event context)) fit
host_frame_stands ask.Notification fit = bytes_stand event_ask_layout (event_ask_values notification_asked) (replicate (128 - 44) 0) (event_ask-whole).tiled (event_ask-paired notification_asked) fit
host_frame_stands ask.PortEnable fit = bytes_stand port_enable_layout (port_enable_values blank_port_enable) (replicate (128 - 12) 0) (port_enable-whole).tiled (port_enable-paired blank_port_enable) fit
host_frame_stands ask.Facts fit = bytes_stand ioc_facts_layout (ioc_facts_values blank_ioc_facts) (replicate (128 - 12) 0) (ioc_facts-whole).tiled (ioc_facts-paired blank_ioc_facts) fit
host_frame_stands ask.PortFacts fit = bytes_stand port_facts_layout (port_facts_values blank_port_facts) (replicate (128 - 12) 0) (port_facts-whole).tiled (port_facts-paired blank_port_facts) fit
host_frame_stands (ask.Init queues) fit = bytes_stand ioc_init_layout (ioc_init_values (init_asked queues)) (replicate (128 - 72) 0) (ioc_init-whole).tiled (ioc_init-paired (init_asked queues)) fit

-- a SCSI IO's reply, which has no tail
scsi_frame_stands : (handle smid scsi_status status moved sense : ℕ) → IsTrue (scsi_reply_fit (scsi_answered handle smid scsi_status status moved sense)) → ScsiReplyStands (scsi_answered handle smid scsi_status status moved sense) (message_frame (message.ScsiReply (scsi_answered handle smid scsi_status status moved sense)))
scsi_frame_stands handle smid scsi_status status moved sense fit =
    let m = scsi_answered handle smid scsi_status status moved sense in
    let numbers = layout_bytes scsi_reply_layout (scsi_reply_values m) in
    let same : numbers ++ replicate 88 0 ≡ numbers ++ [] ++ replicate 88 0 = ap (λ xs. xs ++ replicate 88 0) (sym (append-nil numbers)) in
    let fixed = bytes_stand scsi_reply_layout (scsi_reply_values m) (replicate 88 0) (scsi_reply-whole).tiled (scsi_reply-paired m) (fit_parts m fit).0 in
    let enough = fixed.enough in
    let long = (scsi_reply-whole).long in
    let whole : 40 ≤ length (numbers ++ replicate 88 0) = omega (arith, long, enough) in
    record {
      fixed = subst (Stands scsi_reply_layout (scsi_reply_values m)) same fixed;
      whole = subst (λ xs. 40 ≤ length xs) same whole;
      tail = refl;
    }

-- the answer to event notification, which has no data
notified_frame_stands : EventReplyStands notified (message_frame (message.EventReply notified))
notified_frame_stands =
    let fit = event_parts notified notified_fits in
    let numbers = layout_bytes event_reply_layout (event_reply_values notified) in
    let same : numbers ++ replicate 100 0 ≡ numbers ++ [] ++ replicate 100 0 = ap (λ xs. xs ++ replicate 100 0) (sym (append-nil numbers)) in
    let fixed = bytes_stand event_reply_layout (event_reply_values notified) (replicate 100 0) (event_reply-whole).tiled (event_reply-paired notified) fit.rows in
    let enough = fixed.enough in
    let long = (event_reply-whole).long in
    let whole : 28 ≤ length (numbers ++ replicate 100 0) = omega (arith, long, enough) in
    record {
      fixed = subst (Stands event_reply_layout (event_reply_values notified)) same fixed;
      whole = subst (λ xs. 28 ≤ length xs) same whole;
      kind = refl;
      event_data = refl;
    }

-- a list's end after so many elements
seam : (front rest : List ℕ) (n : ℕ) → length front ≡ n → drop n (front ++ rest) ≡ rest
seam front rest n long = subst (λ k. drop k (front ++ rest) ≡ rest) long (drop-append_seam front rest)

-- an entry's numbers fit
entry_numbers_fit : (e : TopologyEntry) → e.attached_dev_handle < 2 ^ 16 → e.link_rate < 256 → e.phy_status < 256 → IsTrue (values_fit (topology_entry_layout).rows (topology_entry_values e))
unfolding topology_entry_values
entry_numbers_fit e h l p = entry_fits e.attached_dev_handle e.link_rate e.phy_status h l p

-- how long the parts of the data are
entry_long : (e : TopologyEntry) → length (entry_bytes e) ≡ 4
entry_long e = layout_bytes-length topology_entry_layout (topology_entry_values e) (topology_entry-whole).tiled (topology_entry-paired e) ∙ (topology_entry-whole).long

front_long : (handle expander phys phy : ℕ) (added : Bool) → length (layout_bytes topology_layout (topology_values (change_list handle expander phys phy added))) ≡ 12
front_long handle expander phys phy added =
    let t = change_list handle expander phys phy added in
    layout_bytes-length topology_layout (topology_values t) (topology-whole).tiled (topology-paired t) ∙ (topology-whole).long

sixteen : (front back : List ℕ) → length front ≡ 12 → length back ≡ 4 → length (front ++ back) ≡ 16
sixteen front back twelve four = length-append front back ∙ omega (arith, twelve, four)

-- a device's handle and state as the bytes of an entry
entry_back : (handle : ℕ) (added : Bool) → handle < 2 ^ 16 → change_entry handle added ≡ entry_at (entry_bytes (change_entry handle added)) 0
entry_back handle added h =
    let e = change_entry handle added in
    let small : e.phy_status < 256 = grind (arith, nat_tests) in
    let stands = bytes_stand topology_entry_layout (topology_entry_values e) [] (topology_entry-whole).tiled (topology_entry-paired e) (entry_numbers_fit e h (lit< tt) small) in
    entry_is e (entry_bytes e) (subst (Stands topology_entry_layout (topology_entry_values e)) (append-nil (entry_bytes e)) stands)

-- the data of a topology event
change_list_stands : (handle expander phys phy : ℕ) (added : Bool) → handle < 2 ^ 16 → IsTrue (values_fit (topology_layout).rows (topology_values (change_list handle expander phys phy added))) → TopologyStands (change_list handle expander phys phy added) (layout_bytes topology_layout (topology_values (change_list handle expander phys phy added)) ++ entry_bytes (change_entry handle added))
change_list_stands handle expander phys phy added h fit =
    let t = change_list handle expander phys phy added in
    let e = change_entry handle added in
    let front = layout_bytes topology_layout (topology_values t) in
    let back = entry_bytes e in
    let twelve : length front ≡ 12 = front_long handle expander phys phy added in
    let four : length back ≡ 4 = entry_long e in
    let long : length (front ++ back) ≡ 16 = sixteen front back twelve four in
    let there : drop 12 (front ++ back) ≡ back = seam front back 12 twelve in
    let here : e ≡ entry_at (front ++ back) 12 = entry_back handle added h ∙ ap (λ xs. entry_at xs 0) (sym there) ∙ entry_behind (front ++ back) 12 in
    record {
      rows = bytes_stand topology_layout (topology_values t) back (topology-whole).tiled (topology-paired t) fit;
      whole = omega (arith, long);
      entries = ap (λ x. x ∷ replicate 21 blank_topology_entry) here;
      tail = ap (padded 88) (sym (drop_all 16 (front ++ back) (omega (arith, long))));
    }

-- the same as the definition groups it
change_data : (handle expander phys phy : ℕ) (added : Bool) → data_bytes 16 (kind.Topology (change_list handle expander phys phy added)) ≡ layout_bytes topology_layout (topology_values (change_list handle expander phys phy added)) ++ entry_bytes (change_entry handle added)
change_data handle expander phys phy added =
    let front = layout_bytes topology_layout (topology_values (change_list handle expander phys phy added)) in
    let back = entry_bytes (change_entry handle added) in
    append-nil (front ++ (back ++ [])) ∙ ap (λ xs. front ++ xs) (append-nil back)

-- a topology event
topology_frame_stands : (context handle expander phys phy : ℕ) (added : Bool) → handle < 2 ^ 16 → IsTrue (event_reply_fit (topology_told context handle expander phys phy added)) → EventReplyStands (topology_told context handle expander phys phy added) (message_frame (message.EventReply (topology_told context handle expander phys phy added)))
topology_frame_stands context handle expander phys phy added h fit =
    let m = topology_told context handle expander phys phy added in
    let parts = event_parts m fit in
    let fixed = layout_bytes event_reply_layout (event_reply_values m) in
    let told = data_bytes 16 (kind.Topology (change_list handle expander phys phy added)) in
    let same : told ≡ layout_bytes topology_layout (topology_values (change_list handle expander phys phy added)) ++ entry_bytes (change_entry handle added) = change_data handle expander phys phy added in
    let zeros = replicate 84 0 in
    let all : fixed ++ (told ++ zeros) ≡ fixed ++ told ++ zeros = sym (append_assoc fixed told zeros) in
    let first : length fixed ≡ 28 = layout_bytes-length event_reply_layout (event_reply_values m) (event_reply-whole).tiled (event_reply-paired m) ∙ (event_reply-whole).long in
    let second : length told ≡ 16 = ap length same ∙ sixteen (layout_bytes topology_layout (topology_values (change_list handle expander phys phy added))) (entry_bytes (change_entry handle added)) (front_long handle expander phys phy added) (entry_long (change_entry handle added)) in
    let third : take 16 (told ++ zeros) ≡ told = subst (λ n. take n (told ++ zeros) ≡ told) second (take-append_seam told zeros) in
    let cut : take 16 (drop 28 (fixed ++ told ++ zeros)) ≡ told = ap (λ xs. take 16 (drop 28 xs)) (sym all) ∙ ap (take 16) (seam fixed (told ++ zeros) 28 first) ∙ third in
    let listed = change_list_stands handle expander phys phy added h (topology_parts 16 (change_list handle expander phys phy added) parts.event_data).rows in
    let long : length (fixed ++ told ++ zeros) ≡ length fixed + length told + length zeros = length-append (fixed ++ told) zeros ∙ ap (λ n. n + length zeros) (length-append fixed told) in
    record {
      fixed = subst (Stands event_reply_layout (event_reply_values m)) all (bytes_stand event_reply_layout (event_reply_values m) (told ++ zeros) (event_reply-whole).tiled (event_reply-paired m) parts.rows);
      whole = omega (arith, long, first, second);
      kind = refl;
      event_data = subst (TopologyStands (change_list handle expander phys phy added)) (sym (cut ∙ same)) listed;
    }

-- a reply's message, if it is one, fits
abbrev pub SaidFits : Option Message → Type 0
SaidFits None = Unit {0}
SaidFits (Some m) = IsTrue (message_fit m)

-- a told device's handle is a handle
abbrev pub HandleFits : IocReply → Type 0
HandleFits (reply.Topology context handle expander phys phy added) = handle < 2 ^ 16
HandleFits other = Unit {0}

-- what the controller writes
pub reply_frame_stands : (r : IocReply) → SaidFits (ioc_message r) → HandleFits r → ReplyStands r (reply_frame r)
reply_frame_stands (reply.Plain function status) fit small = refl
reply_frame_stands (reply.Scsi handle smid scsi_status status moved sense) fit small = scsi_frame_stands handle smid scsi_status status moved sense fit
reply_frame_stands (reply.Task handle task_type status code count) fit small = bytes_stand task_reply_layout (task_reply_values (task_answered handle task_type status code count)) (replicate (128 - 28) 0) (task_reply-whole).tiled (task_reply-paired (task_answered handle task_type status code count)) fit
reply_frame_stands (reply.Config action ext_type status) fit small = bytes_stand config_reply_layout (config_reply_values (config_answered action ext_type status)) (replicate (128 - 24) 0) (config_reply-whole).tiled (config_reply-paired (config_answered action ext_type status)) fit
reply_frame_stands (reply.Facts who_init queues) fit small = bytes_stand ioc_facts_reply_layout (ioc_facts_reply_values (facts_answered who_init queues)) (replicate (128 - 64) 0) (ioc_facts_reply-whole).tiled (ioc_facts_reply-paired (facts_answered who_init queues)) fit
reply_frame_stands (reply.PortFacts port status) fit small = bytes_stand port_facts_reply_layout (port_facts_reply_values (port_answered port status)) (replicate (128 - 28) 0) (port_facts_reply-whole).tiled (port_facts_reply-paired (port_answered port status)) fit
reply_frame_stands (reply.Removed handle operation status) fit small = bytes_stand unit_control_reply_layout (unit_control_reply_values (removal_answered handle operation status)) (replicate (128 - 20) 0) (unit_control_reply-whole).tiled (unit_control_reply-paired (removal_answered handle operation status)) fit
reply_frame_stands reply.Notified fit small = notified_frame_stands
reply_frame_stands (reply.Topology context handle expander phys phy added) fit small = topology_frame_stands context handle expander phys phy added small fit

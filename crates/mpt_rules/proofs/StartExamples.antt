-- The steps of a start, and of the end of a session.
use Rattle.std.proofs.Common.{◌≡◌, ℕ, List, [], ◌∷◌, ◌++◌, true, false, refl, length, take, drop, fold, replicate, slice_index_or}
use Rattle.std.specs.Prelude.{flat_map}
use Rattle.mpi_layout.specs.Rows.{field}
use Rattle.ioc_msgs.specs.IocFacts.{ioc_facts_layout, ioc_facts_values}
use Rattle.ioc_msgs.specs.PortFacts.{port_facts_layout, port_facts_values}
use Rattle.ioc_msgs.specs.IocInit.{ioc_init_layout, ioc_init_values}
use Rattle.ioc_msgs.specs.IocFactsReply.{ioc_facts_reply_layout}
use Rattle.ioc_msgs.specs.PortFactsReply.{port_facts_reply_layout}
use Rattle.ioc_msgs.specs.IocInitReply.{ioc_init_reply_layout}
use Rattle.mpi_doorbell.specs.declared.registers.TheConstants.{IOC_STATE_RESET, IOC_STATE_READY, IOC_STATE_OPERATIONAL, IOC_STATE_FAULT, IOC2SYS_DB_STATUS}
use Rattle.smid_pool.specs.Pool.{Open, slot_of}
use Rattle.mpt_trace.specs.declared.item.Up.TheVariants as up
use Rattle.mpt_wire.specs.Messages.Fields.{reply_frame_address}
use Rattle.mpt_rules.specs.declared.host_frame.HostFrame.TheVariants.{Held, Out, Away}
use Rattle.mpt_rules.specs.declared.request.Request.TheVariants as request
use Rattle.mpt_rules.specs.declared.stage.Stage.TheVariants as stage
use Rattle.mpt_rules.specs.Host.Parts.{Host, new_host}
use Rattle.mpt_rules.specs.Host.Doorbell.{turn_from}
use Rattle.mpt_rules.specs.Host.Takes.{down_sent, host_waits, looks, starts, takes_up}
use Rattle.mpt_rules.proofs.HostUp.{host_up, posted, puts_of, read, returned, wrote}

-- the outbox was put, and a value comes
abbrev hears : Host → ℕ → Host
hears host value = (takes_up (record host { out = [] }) 0 (up.Value value)).part

abbrev started : Host
started = (starts (new_host 1)).part

-- ---- what the first look reads

in_reset : puts_of (hears started IOC_STATE_RESET) ≡ read 0x00 ∷ []
unfolding turn_from
in_reset = refl

in_reset_stage : (hears started IOC_STATE_RESET).stage ≡ stage.Start
unfolding turn_from
in_reset_stage = refl

-- a state without a name
in_no_state : (hears started 0xf000_0000).stage ≡ stage.Start
unfolding turn_from
in_no_state = refl

in_ready : (hears started IOC_STATE_READY).stage ≡ stage.Facts
unfolding turn_from ioc_facts_layout ioc_facts_values
in_ready = refl

in_operational : puts_of (hears started IOC_STATE_OPERATIONAL) ≡ wrote 0x00 0x4000_0000 ∷ read 0x30 ∷ []
unfolding turn_from
in_operational = refl

in_operational_stage : (hears started IOC_STATE_OPERATIONAL).stage ≡ stage.StartReset
unfolding turn_from
in_operational_stage = refl

-- no reset was asked, so frames are returned on
in_operational_returning : (hears started IOC_STATE_OPERATIONAL).returning ≡ true
unfolding turn_from
in_operational_returning = refl

in_fault : puts_of (hears started IOC_STATE_FAULT) ≡ wrote 0x04 0x0 ∷ wrote 0x04 0xF ∷ wrote 0x04 0x4 ∷ wrote 0x04 0xB ∷ wrote 0x04 0x2 ∷ wrote 0x04 0x7 ∷ wrote 0x04 0xD ∷ read 0x08 ∷ []
unfolding turn_from
in_fault = refl

-- the reset of a start ends in the handshake of IOC Facts
after_reset : (fold hears started (IOC_STATE_OPERATIONAL ∷ 0 ∷ IOC_STATE_RESET ∷ IOC_STATE_READY ∷ [])).stage ≡ stage.Facts
unfolding turn_from ioc_facts_layout ioc_facts_values
after_reset = refl

-- ---- the handshakes

-- the values that are read while a message of so many dwords goes out
abbrev sent : ℕ → List ℕ
sent dwords = 0 ∷ 0 ∷ IOC2SYS_DB_STATUS ∷ 0 ∷ replicate dwords 0

-- and while these words of its reply come in, up to the end
abbrev word_heard : ℕ → List ℕ
word_heard word = IOC2SYS_DB_STATUS ∷ word ∷ []

abbrev heard : List ℕ → List ℕ
heard words = flat_map word_heard words ++ IOC2SYS_DB_STATUS ∷ 0 ∷ []

-- the replies of a controller with one queue, by words
abbrev facts_words : List ℕ
facts_words =
    0x0200 ∷ 0x0310 ∷ 0 ∷ 0 ∷ 0 ∷ 0 ∷ 0 ∷ 0 ∷ 0 ∷ 0
    ∷ 0 ∷ 0x0101 ∷ 280 ∷ 0 ∷ 0 ∷ 0 ∷ 0 ∷ 0x0100 ∷ 32 ∷ 0 ∷ 0
    ∷ 64 ∷ 16 ∷ 1 ∷ 2 ∷ 8 ∷ 352 ∷ 32 ∷ 0x0058 ∷ 0 ∷ 0x0009 ∷ 0 ∷ []

abbrev port_facts_words : List ℕ
port_facts_words = 0 ∷ 0x0507 ∷ 0 ∷ 0 ∷ 0 ∷ 0 ∷ 0 ∷ 0 ∷ 0 ∷ 0 ∷ 0x3000 ∷ 0 ∷ 0 ∷ 0 ∷ []

abbrev init_words : List ℕ
init_words = 4 ∷ 0x0205 ∷ 0 ∷ 0 ∷ 0 ∷ 0 ∷ 0 ∷ 0 ∷ 0 ∷ 0 ∷ []

-- a host that has begun the handshake of IOC Facts
abbrev facts_begun : Host
facts_begun = hears started IOC_STATE_READY

-- no value of it is strange, and Port Facts follow
facts_done : (fold hears facts_begun (sent 3 ++ heard facts_words)).stage ≡ stage.PortFacts
unfolding turn_from field ioc_facts_layout ioc_facts_values ioc_facts_reply_layout port_facts_layout port_facts_values
facts_done = refl

-- the values of all three handshakes
abbrev all_values : List ℕ
all_values = sent 3 ++ (heard facts_words ++ (sent 3 ++ (heard port_facts_words ++ (sent 18 ++ heard init_words))))

-- then all frames were returned, and the event notification is posted
notification_open : slot_of (fold hears facts_begun all_values).pool 265 ≡ Open request.Notification
unfolding turn_from field ioc_facts_layout ioc_facts_values ioc_facts_reply_layout port_facts_layout port_facts_values port_facts_reply_layout ioc_init_layout ioc_init_values ioc_init_reply_layout
notification_open = refl

all_returned : (fold hears facts_begun all_values).returned ≡ 64
unfolding turn_from field ioc_facts_layout ioc_facts_values ioc_facts_reply_layout port_facts_layout port_facts_values port_facts_reply_layout ioc_init_layout ioc_init_values ioc_init_reply_layout
all_returned = refl

-- the write that ends the handshake, 64 returns and the post
all_put : length (fold hears facts_begun all_values).out ≡ 66
unfolding turn_from field ioc_facts_layout ioc_facts_values ioc_facts_reply_layout port_facts_layout port_facts_values port_facts_reply_layout ioc_init_layout ioc_init_values ioc_init_reply_layout
all_put = refl

first_returned : take 3 (puts_of (fold hears facts_begun all_values)) ≡ wrote 0x30 0 ∷ returned (reply_frame_address 0) 1 ∷ returned (reply_frame_address 1) 2 ∷ []
unfolding turn_from field ioc_facts_layout ioc_facts_values ioc_facts_reply_layout port_facts_layout port_facts_values port_facts_reply_layout ioc_init_layout ioc_init_values ioc_init_reply_layout
first_returned = refl

last_put : drop 64 (puts_of (fold hears facts_begun all_values)) ≡ returned (reply_frame_address 63) 64 ∷ posted 0x08 265 ∷ []
unfolding turn_from field ioc_facts_layout ioc_facts_values ioc_facts_reply_layout port_facts_layout port_facts_values port_facts_reply_layout ioc_init_layout ioc_init_values ioc_init_reply_layout
last_put = refl

-- the frame's return is put, and the controller has the frame
frame_out : slice_index_or (fold hears facts_begun all_values).frames 0 Held ≡ Out
unfolding turn_from field ioc_facts_layout ioc_facts_values ioc_facts_reply_layout port_facts_layout port_facts_values port_facts_reply_layout ioc_init_layout ioc_init_values ioc_init_reply_layout
frame_out = refl

frame_away : slice_index_or (down_sent (down_sent (fold hears facts_begun all_values))).frames 0 Held ≡ Away
unfolding turn_from field ioc_facts_layout ioc_facts_values ioc_facts_reply_layout port_facts_layout port_facts_values port_facts_reply_layout ioc_init_layout ioc_init_values ioc_init_reply_layout
frame_away = refl

-- ---- the end of a session

-- the value that a look reads changes nothing but that the host doesn't wait for it any more
look_done : hears (looks host_up) 0x2400_0000 ≡ host_up
unfolding turn_from
look_done = refl

look_waits : host_waits (looks host_up) ≡ true
unfolding turn_from
look_waits = refl

waits_for_nothing : host_waits host_up ≡ false
waits_for_nothing = refl

start_waits : host_waits started ≡ true
unfolding turn_from
start_waits = refl

off_waits_for_nothing : host_waits (new_host 1) ≡ false
off_waits_for_nothing = refl

-- the controller's calm changes nothing
calm : (takes_up host_up 0 up.Calm).part ≡ host_up
calm = refl

-- The fields of a frame by their names are the numbers of the message that it stands for.
use Rattle.std.proofs.Common.{◌≡◌, ℕ, ◌==◌, ◌≤◌, true, List, [], bit_and, get_or, ap, arith}
use Rattle.config_pages.specs.ConfigAsk.{ConfigAskStands, config_ask_layout, config_ask_values}
use Rattle.config_pages.specs.declared.config_ask.ConfigAsk.{ConfigAsk}
use Rattle.event_msgs.specs.EventAck.{EventAckStands, event_ack_layout, event_ack_values}
use Rattle.event_msgs.specs.EventAsk.{EventAskStands, event_ask_layout, event_ask_values}
use Rattle.event_msgs.specs.declared.event_ack.EventAck.{EventAck}
use Rattle.event_msgs.specs.declared.event_ask.EventAsk.{EventAsk}
use Rattle.ioc_msgs.specs.UnitControl.{UnitControlStands, unit_control_layout, unit_control_values}
use Rattle.ioc_msgs.specs.declared.unit_control.UnitControl.{UnitControl}
use Rattle.scsi_msgs.specs.ScsiIo.{ScsiIoStands, scsi_io_layout, scsi_io_values}
use Rattle.scsi_msgs.specs.TaskAsk.{TaskAskStands, task_ask_layout, task_ask_values}
use Rattle.scsi_msgs.specs.declared.scsi_io.ScsiIo.{ScsiIo}
use Rattle.scsi_msgs.specs.declared.task_ask.TaskAsk.{TaskAsk}
use Rattle.mpi_layout.specs.Rows.{RowShape, field, number}
use Rattle.mpi_layout.specs.declared.row.Rule.TheVariants.{Any}
use Rattle.mpi_layout.proofs.Obeyed.{obeyed_row}
use Rattle.std.proofs.lemmas.Bool.Decides.{nat_tests}
use Rattle.std.proofs.lemmas.Nat.{and_le_r}
use Rattle.mpt_wire.specs.Messages.Fields.{acked_context_in, acked_event_in, action_in, controlled_handle_in, data_length_in, dev_handle_in, direction_in, element_flags_in, element_length_in, event_masks_in, ext_page_type_in, lun_in, operation_in, page_address_in, page_buffer_in, page_number_in, page_type_in, task_mid_in, task_type_in}

pub record ScsiIoNamed (io : ScsiIo) (frame : List ℕ) : Type 0 where
  pub handle : dev_handle_in frame ≡ io.dev_handle
  pub data_length : data_length_in frame ≡ io.data_length
  pub cdb_length : field frame 0x24 2 ≡ io.io_flags
  pub lun : lun_in frame ≡ io.lun
  pub direction : direction_in frame ≡ io.control_direction
  pub element_length : element_length_in frame ≡ io.sge_length
  pub element_flags : element_flags_in frame ≡ io.sge_flags

pub scsi_io_named : (io : ScsiIo) (frame : List ℕ) → ScsiIoStands io frame → ScsiIoNamed io frame
unfolding scsi_io_layout scsi_io_values
scsi_io_named io frame s = record {
  handle = ap (λ vs. get_or vs 0 0) s.numbers;
  data_length = ap (λ vs. get_or vs 18 0) s.numbers;
  cdb_length = ap (λ vs. get_or vs 20 0) s.numbers;
  lun = ap (λ vs. get_or vs 26 0) s.numbers;
  direction = ap (λ vs. get_or vs 30 0) s.numbers;
  element_length = ap (λ vs. get_or vs 35 0) s.numbers;
  element_flags = ap (λ vs. get_or vs 36 0) s.numbers;
}

-- a row that no layout has
abbrev no_row : RowShape
no_row = number 0 0 [] Any

-- IoFlags has no more than a CDB's length
pub cdb_short : (io : ScsiIo) (frame : List ℕ) → ScsiIoStands io frame → io.io_flags ≤ 31
unfolding scsi_io_layout scsi_io_values
cdb_short io frame s =
    let row : (bit_and (field frame 0x24 2) 31 == field frame 0x24 2) ≡ true = obeyed_row scsi_io_layout.rows frame 20 no_row s.obeyed (omega arith) in
    let masked : bit_and (field frame 0x24 2) 31 ≡ field frame 0x24 2 = grind (arith, nat_tests, row) in
    let named : field frame 0x24 2 ≡ io.io_flags = ap (λ vs. get_or vs 20 0) s.numbers in
    omega (arith, and_le_r (field frame 0x24 2) 31, masked, named)

pub record TaskAskNamed (ask : TaskAsk) (frame : List ℕ) : Type 0 where
  pub handle : dev_handle_in frame ≡ ask.dev_handle
  pub task_type : task_type_in frame ≡ ask.task_type
  pub task_mid : task_mid_in frame ≡ ask.task_mid

pub task_ask_named : (ask : TaskAsk) (frame : List ℕ) → TaskAskStands ask frame → TaskAskNamed ask frame
unfolding task_ask_layout task_ask_values
task_ask_named ask frame s = record {
  handle = ap (λ vs. get_or vs 0 0) s.numbers;
  task_type = ap (λ vs. get_or vs 4 0) s.numbers;
  task_mid = ap (λ vs. get_or vs 15 0) s.numbers;
}

pub record ConfigAskNamed (ask : ConfigAsk) (frame : List ℕ) : Type 0 where
  pub action : action_in frame ≡ ask.action
  pub ext_page_type : ext_page_type_in frame ≡ ask.ext_page_type
  pub page_number : page_number_in frame ≡ ask.page_number
  pub page_type : page_type_in frame ≡ ask.page_type
  pub page_address : page_address_in frame ≡ ask.page_address
  pub page_buffer : page_buffer_in frame ≡ ask.sge_length

pub config_ask_named : (ask : ConfigAsk) (frame : List ℕ) → ConfigAskStands ask frame → ConfigAskNamed ask frame
unfolding config_ask_layout config_ask_values
config_ask_named ask frame s = record {
  action = ap (λ vs. get_or vs 0 0) s.numbers;
  ext_page_type = ap (λ vs. get_or vs 5 0) s.numbers;
  page_number = ap (λ vs. get_or vs 16 0) s.numbers;
  page_type = ap (λ vs. get_or vs 17 0) s.numbers;
  page_address = ap (λ vs. get_or vs 18 0) s.numbers;
  page_buffer = ap (λ vs. get_or vs 19 0) s.numbers;
}

pub event_ask_named : (ask : EventAsk) (frame : List ℕ) → EventAskStands ask frame → event_masks_in frame ≡ ask.event_masks0
unfolding event_ask_layout event_ask_values
event_ask_named ask frame s = ap (λ vs. get_or vs 10 0) s.numbers

pub record EventAckNamed (ack : EventAck) (frame : List ℕ) : Type 0 where
  pub event : acked_event_in frame ≡ ack.event
  pub context : acked_context_in frame ≡ ack.event_context

pub event_ack_named : (ack : EventAck) (frame : List ℕ) → EventAckStands ack frame → EventAckNamed ack frame
unfolding event_ack_layout event_ack_values
event_ack_named ack frame s = record {
  event = ap (λ vs. get_or vs 9 0) s.numbers;
  context = ap (λ vs. get_or vs 11 0) s.numbers;
}

pub record UnitControlNamed (ask : UnitControl) (frame : List ℕ) : Type 0 where
  pub operation : operation_in frame ≡ ask.operation
  pub handle : controlled_handle_in frame ≡ ask.dev_handle

pub unit_control_named : (ask : UnitControl) (frame : List ℕ) → UnitControlStands ask frame → UnitControlNamed ask frame
unfolding unit_control_layout unit_control_values
unit_control_named ask frame s = record {
  operation = ap (λ vs. get_or vs 0 0) s.numbers;
  handle = ap (λ vs. get_or vs 4 0) s.numbers;
}

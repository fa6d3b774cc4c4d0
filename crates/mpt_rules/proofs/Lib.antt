pub mod HostUp
pub mod HostExamples
pub mod StrangeExamples
-- Lemmas on what the lines hold, and computed examples.
pub mod HostCalls
pub mod Counts
pub mod PutsKeepLines
pub mod BoundToTarget
pub mod FabricCounts
pub mod Lines
pub mod FabricExamples
pub mod IocExampleParts
mod IocCommandExamples
mod IocTaskExamples
mod IocRequestExamples
mod IocBindingExamples
mod IocRegisterExamples
pub mod WorldExampleParts
mod WorldExamples
mod CaseExamples
mod JournalExamples
mod RemovalExamples
pub mod SchedulePieces
pub mod HandleRemoved
pub mod HandleGivenAgain
mod ReusedHandle
pub mod PluggedAgain
mod OldReset
pub mod StoppedWrite
mod ParkedIdentifier
pub mod WritesAtTheDisk
pub mod ResetInMidFlight
pub mod HandshakesAfterReset
mod StartAfterReset
pub mod AbortBeforeCommand
mod AbortOnTwoQueues
pub mod CommandsOnTwoQueues
pub mod ResetOnTwoQueues
pub mod ReplyExamples
pub mod EventExamples
pub mod ResetExamples
mod IocSendingExamples
mod IocResetExamples
pub mod StartExamples
pub mod HostTurns
mod WireExamples
pub mod RegisterTies
pub mod RepeatedAnswers

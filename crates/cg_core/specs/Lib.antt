pub mod PeerCodes
pub mod Round
pub mod OutcomeCodes
pub mod EventCodes
pub mod Handed
pub mod Borrowed
pub mod Sending
pub mod Replies
pub mod SettingsValues
pub mod Settings
pub mod SettingsLaws
pub mod Values
pub mod Claims
pub mod Step
pub mod Parts
pub mod Changes
pub mod Laws
pub mod Arrivals
pub use Rattle.cg_types.specs.Answer
pub use Rattle.cg_types.specs.Equality
pub use Rattle.cg_types.specs.ResultSteps
pub use Rattle.cg_types.specs.Rising
pub use Rattle.cg_version.specs.Version
pub use Rattle.cg_entry.specs.Entry
pub use Rattle.cg_table.specs.Own
pub use Rattle.cg_silence.specs.Silence
pub use Rattle.cg_silence.specs.Values as SilenceValues
pub use Rattle.cg_tokens.specs.Ring
pub use Rattle.cg_tokens.specs.Moving
pub use Rattle.cg_exchange.specs.Changes as ExchangeChanges
pub use Rattle.cg_messages.specs.Borrowed as BorrowedMessages
pub use Rattle.cg_messages.specs.Members
pub use Rattle.cg_silence.specs.Windows
pub use Rattle.cg_types.specs.Text

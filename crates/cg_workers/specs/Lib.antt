pub mod Limits
pub mod AcceptErrors
pub mod Rounds
pub mod Ends
pub mod Words
pub mod RoundLaws
pub mod Each
pub mod Workers
pub mod Laws
pub mod Ticks
pub mod TickLaws
pub use Rattle.crossbeam_channel.specs.Claims
pub use Rattle.crossbeam_channel.specs.Ends as CrossbeamChannelEnds
pub use Rattle.rand_core.specs.Pcg32Seed
pub use Rattle.rand_pcg.specs.Pcg
pub use Rattle.cg_core.specs.Replies

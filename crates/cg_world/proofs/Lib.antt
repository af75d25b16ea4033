pub mod SpellingLemmas
pub mod ActionLemmas
pub mod WorldLaws
pub mod SingleActions
pub mod TakenLaws
pub mod WholeEntries
pub mod WorkedRuns
pub mod ActingLemmas
pub mod MarkLemmas
pub mod GapLaws
pub mod OwnLaws
pub mod HeadlineLaws
mod ExchangeLaws
mod MergingLemmas
mod ExchangeCalls

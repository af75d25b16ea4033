mod AllWorked
mod LifeLemmas
mod MoreWork
mod SeatKeeping

pub mod AccessVisits

pub mod ClassLaws
mod WordLemmas

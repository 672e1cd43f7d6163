pub mod GuardList

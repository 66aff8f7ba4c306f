mod Shown
pub mod JoinLaws
mod KeyLaws
mod ProjectLaws

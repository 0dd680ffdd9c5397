-- The ring of the stuck vertices.
pub mod Ring
pub mod WalkLaws
pub mod FollowLaws

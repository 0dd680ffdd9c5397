-- What has to be heard for each path.
pub mod Rests
pub mod RestLaws
pub mod HeardRestLaws

mod Moves
mod Feeds

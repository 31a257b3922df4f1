mod FeedFiles
mod Runs

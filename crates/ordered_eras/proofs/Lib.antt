mod Changes
mod Sessions

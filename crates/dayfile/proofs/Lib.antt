mod Accepting
mod Checking
mod Opening
mod Ordering

mod Agree
mod Counted

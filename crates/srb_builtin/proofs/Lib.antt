mod Cuts
mod Steps

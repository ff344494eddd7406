mod Spelled
mod Reading
mod Rows
mod Parts
mod Back
mod Alike
mod Law

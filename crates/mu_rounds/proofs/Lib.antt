mod Lists
mod Sets
mod Saying
mod Stepping
mod Coming
mod Timing
mod Telling
mod Beginning

mod Steps
mod Rows
mod Arrivals
mod Changes

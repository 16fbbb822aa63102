pub mod Weekdays

pub mod Collector

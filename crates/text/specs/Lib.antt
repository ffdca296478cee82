pub mod FedLimits
pub mod Feeding
pub mod LineFed
pub mod LineRead
pub mod OneAnswer
pub mod Readings
pub mod TextFed
pub mod TextSamples

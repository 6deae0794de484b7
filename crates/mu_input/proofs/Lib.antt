pub mod Advancing
mod BodyBack
mod BodyReadings
mod BulkCommands
mod Clients
mod ClientsBeyond
mod Cuts
pub mod Fronts
pub mod JobConfigs
mod KeyOrder
mod Keys
mod LegalEvents
pub mod ManyWords
mod OperationsBack
mod ScriptBack
mod SettingsBack
mod StopsAndPauses
pub mod Taking
mod TraceBack

pub mod Acknowledging
pub mod EgressSteps
pub mod Hearing
pub mod IngressSteps
pub mod ReplicaKept
pub mod ReplicaLinks
pub mod ReplicaSteps
pub mod Taking

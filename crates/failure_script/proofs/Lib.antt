pub mod DueOrders
pub mod SafeScripts

pub mod ComingRows
pub mod Coming
pub mod StageRows
pub mod Taking
pub mod Times

pub mod StepsRows
pub mod StepsPoints
pub mod StepsLoop

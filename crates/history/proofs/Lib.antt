-- The claims about every list of calls, and the laws behind them.
--     Computed       three lists, computed
--     TensorLaws     writing elements into a raw tensor is writing them into its packed buffer; so is reading them
--     TableLaws      what a call leaves of the table
--     BufferLaws     what a call leaves of the buffer
--     Agreement      program and model in step over one call
--     Simulation     program and model in step over every list
--     Nans           no NaN in an fp16 raw tensor
--     Apart          placed regions share no byte, at every moment
--     Separation     what a call leaves to others
--     ZeroLaws       an element whose bytes are 0
--     Released       what is read of a region that was released
--     Claims         the statements
pub mod Computed
pub mod TensorLaws
pub mod TableLaws
pub mod BufferLaws
pub mod Agreement
pub mod Simulation
pub mod Nans
pub mod Apart
pub mod Separation
pub mod ZeroLaws
pub mod Released
pub mod Claims

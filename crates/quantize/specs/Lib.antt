pub mod Quantize

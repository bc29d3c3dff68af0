-- Laws of the definitions of specs/.
--     Computed        settings, positions and the order, computed
--     FormatLaws      a table of formats by one test of all its entries; bytes a pixel
--     SettingLaws     an accepted setting, and a position refused and given
--     Valid           an accepted setting meets the paper's rules, and back
--     PositionLaws    a pixel inside its line, its own bytes, its position within 64 bits
--     PixelLaws       what a position given comes to
--     Claims          the claims about settings and pixels, of the calls
pub mod Computed
pub mod FormatLaws
pub mod SettingLaws
pub mod Valid
pub mod PositionLaws
pub mod PixelLaws
pub mod Claims

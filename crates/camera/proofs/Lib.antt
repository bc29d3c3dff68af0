-- Laws of the definitions of specs/.
--     Computed         roots and ready-made settings, computed
--     RootLaws         the greatest whole root
--     CurveLaws        the entries of the curve and of its tables
--     ReadyLaws        the ready-made settings as the code makes them, and its tests
--     AcceptedLaws     the lookup's checks of the ready-made settings
--     Claims           the claims about the curve and its settings, each proof a citation
pub mod Computed
pub mod RootLaws
pub mod CurveLaws
pub mod ReadyLaws
pub mod AcceptedLaws
pub mod Claims

-- What memory and core values hold: reading computes it, and reads no byte besides.
pub mod FramesReading
pub mod ReadsExactly
pub mod StopsAtFirstFault

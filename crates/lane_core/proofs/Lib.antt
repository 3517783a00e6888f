pub mod RangeMask

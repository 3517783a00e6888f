mod CellCounts

mod AsBox
